-- A whole service answers as the plain service does: call after call. Rests on the theorem about one call.
use Rattle.std.proofs.Common.{ℕ, List, ◌∷◌, refl, ap, ◌∙◌}
use Rattle.cells.specs.Cells.{Map}
use Rattle.plain.specs.Calls.{Request, Answer}
use Rattle.plain.specs.States as plain
use Rattle.plain.specs.Service.{answer_to, state_after}
use Rattle.standing.specs.Moments.{Moment, Stands, bare_stands, Sound, sound_bare}
use Rattle.standing.specs.Services.{Service, no_call, one_call, ServedAlike, ServicesAnswerAlike}
use Rattle.standing.proofs.Calls.{calls_keep_standing}

serve_alike : {capacity : ℕ} {w w_after : Moment} {m m_after : Map} {rs : List Request} {answers : List Answer} (s : plain.State) →
    Service capacity w m rs answers w_after m_after → Stands m w s → Sound capacity s → ServedAlike capacity s rs answers w_after m_after
serve_alike s no_call stands sound = record { same_answers = refl; stands = stands; sound = sound }
serve_alike {capacity} {w} {m = m} s (one_call {r = r} {rs = rs} {answers = answers} d numbered within did more) stands sound =
    let x = calls_keep_standing capacity m w s r d numbered within stands sound did in
    let y = serve_alike (state_after capacity s r) more x.stands x.sound in
    record {
      same_answers = ap (λ a. a ∷ answers) x.answers ∙ ap (λ as_list. answer_to capacity s r ∷ as_list) y.same_answers;
      stands = y.stands;
      sound = y.sound;
    }

pub services_answer_alike : ServicesAnswerAlike
services_answer_alike capacity rs answers w_after m_after service = serve_alike plain.bare service (bare_stands (λ c. refl)) sound_bare
