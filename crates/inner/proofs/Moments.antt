-- The moments that an engine means in each state, and that a call keeps it in service. Rests on the theorem about one call.
use Rattle.std.proofs.Common.{◌≡◌, ℕ, ◌≤◌, Some, Option, refl, ap, ◌∙◌}
use Rattle.cells.specs.Cells.{Map, Numbered, count}
use Rattle.plain.specs.Calls.{Request, Answer}
use Rattle.plain.specs.Service.{serve, state_after}
use Rattle.sheet.specs.declared.passed.Sheet.{Sheet as LoadedSheet}
use Rattle.standing.specs.Moments.{bare, open_with, running_with, done_with, Stands, Sound}
use Rattle.standing.specs.Serving.{done}
use Rattle.standing.specs.Calls.{Serves}
use Rattle.standing.proofs.Calls.{calls_keep_standing}
use Rattle.inner.specs.declared.kept.Inner.{Inner}
use Rattle.inner.specs.declared.kept.State.{State}
use Rattle.inner.specs.declared.kept.State.TheVariants.{Bare, Open, Running, Done}
use Rattle.inner.specs.Meant.{moment, moment_in, sheet_of, input_stack, frame_stack}
use Rattle.inner.specs.Serving.{Serving, Does}

-- the moment by its state and its sheet
moment_at : (i : Inner) (a : State) (o : Option LoadedSheet) → i.state ≡ a → i.sheet ≡ o → moment i ≡ moment_in a o i
moment_at i a o p q = ap (λ x. moment_in x i.sheet i) p ∙ ap (λ y. moment_in a y i) q

pub bare_moment : (i : Inner) → i.state ≡ Bare → moment i ≡ bare
bare_moment i p = moment_at i Bare i.sheet p refl

pub open_moment : (i : Inner) (s : LoadedSheet) → i.state ≡ Open → i.sheet ≡ Some s → moment i ≡ open_with (sheet_of s) (input_stack i)
open_moment i s p q = moment_at i Open (Some s) p q

pub running_moment : (i : Inner) (s : LoadedSheet) → i.state ≡ Running → i.sheet ≡ Some s → moment i ≡ running_with (sheet_of s) (frame_stack i)
running_moment i s p q = moment_at i Running (Some s) p q

pub done_moment : (i : Inner) (s : LoadedSheet) → i.state ≡ Done → i.sheet ≡ Some s → moment i ≡ done_with (sheet_of s) i.result
done_moment i s p q = moment_at i Done (Some s) p q

-- a call, from an engine in service: what it stands for afterwards
pub stood_for : (capacity : ℕ) (m n : Map) (i j : Inner) (r : Request) (a : Answer) → Numbered m → count m ≤ capacity → Does capacity m i r a n j →
    (s : _) → Stands m (moment i) s → Sound capacity s → Serves capacity (done a (moment j) n) (serve capacity s r)
stood_for capacity m n i j r a numbered within does s stands sound =
    calls_keep_standing capacity m (moment i) s r (done a (moment j) n) numbered within stands sound does.did

pub still_serving : (capacity : ℕ) (m n : Map) (i j : Inner) (r : Request) (a : Answer) → Numbered m → count m ≤ capacity → Serving capacity m i →
    Does capacity m i r a n j → Serving capacity n j
still_serving capacity m n i j r a numbered within v does =
    let x = stood_for capacity m n i j r a numbered within does v.state v.stands v.sound in
    record { kept = does.kept; fits = does.fits; state = state_after capacity v.state r; stands = x.stands; sound = x.sound }
