-- A whole service on words, call after call, and that it answers as the plain service does. Rests on the calls.
use Rattle.std.specs.Prelude.{◌≡◌, ℕ, ◌≤◌, List, [], ◌∷◌}
use Rattle.cells.specs.Cells.{Map, Numbered, empty, count}
use Rattle.plain.specs.Calls.{Request, Answer}
use Rattle.plain.specs.States as plain
use Rattle.plain.specs.Service.{answers_to, state_behind}
use Rattle.standing.specs.Moments.{Moment, bare, Stands, Sound}
use Rattle.standing.specs.Serving.{Done}
use Rattle.standing.specs.Calls.{MayDo}

-- Service capacity w m rs answers w_after m_after: from this moment and these cells the calls rs are made, one after the other. Each
-- does what it may do on words, and the store keeps to its numbers and to its capacity.
pub data Service (capacity : ℕ) : Moment → Map → List Request → List Answer → Moment → Map → Type 0 where
  no_call : {w : Moment} {m : Map} → Service capacity w m [] [] w m
  one_call : {w w_after : Moment} {m m_after : Map} {r : Request} {rs : List Request} {answers : List Answer} (d : Done) →
      Numbered m → count m ≤ capacity → MayDo capacity w m r d → Service capacity d.after d.cells rs answers w_after m_after →
      Service capacity w m (r ∷ rs) (d.answer ∷ answers) w_after m_after

-- what a service came to is what the plain service came to after the same calls
pub record ServedAlike (capacity : ℕ) (s : plain.State) (rs : List Request) (answers : List Answer) (w_after : Moment) (m_after : Map) : Type 0 where
  pub same_answers : answers ≡ answers_to capacity s rs
  pub stands : Stands m_after w_after (state_behind capacity s rs)
  pub sound : Sound capacity (state_behind capacity s rs)

-- Whatever calls are made, from Bare with no cell held, refused ones among them: each answer is the plain service's, and the moment
-- behind them stands for its state. Any row of calls is one, so this holds after every call.
abbrev pub ServicesAnswerAlike : Type 0
ServicesAnswerAlike =
    (capacity : ℕ) (rs : List Request) (answers : List Answer) (w_after : Moment) (m_after : Map) → Service capacity bare empty rs answers w_after m_after →
    ServedAlike capacity plain.bare rs answers w_after m_after
