-- What the code of the calls that are no steps leaves in what an engine keeps and in its cells. m and i are before the call, n and j behind it.
-- Rests on changes of what an engine keeps, and on the verdict.
use Rattle.std.specs.Prelude.{◌≡◌, ℕ, ◌<◌, ◌≤◌, true, false, List, Some, Ok, Err}
use Rattle.records.specs.declared.faults.Fault.{Fault}
use Rattle.cells.specs.Cells.{Map, empty, without, free}
use Rattle.rules.specs.Verdict.{verdict}
use Rattle.sheet.specs.declared.passed.Sheet.{Sheet as LoadedSheet}
use Rattle.sheet.specs.Sheets.{bytes_of, sheet_tables}
use Rattle.standing.specs.declared.frames.Slot.TheVariants.{ListOf}
use Rattle.standing.specs.Stepping.{slot_word, slot_type, words_in}
use Rattle.inner.specs.declared.kept.Inner.{Inner}
use Rattle.inner.specs.declared.kept.State.{State}
use Rattle.inner.specs.declared.kept.State.TheVariants.{Open, Done}
use Rattle.standing.specs.Serving.{are_parameters, first_frame, price}
use Rattle.inner.specs.Meant.{admits_load, sheet_of, input_stack, moment}
use Rattle.inner.specs.Changes.{opened, opened_with, with_result, started}

-- nothing is altered
pub record Same (m : Map) (i : Inner) (n : Map) (j : Inner) : Type 0 where
  pub inner : j ≡ i
  pub cells : n ≡ m

-- a sheet that passed is loaded
pub record Loads (m : Map) (i : Inner) (bytes : List ℕ) (n : Map) (j : Inner) : Type 0 where
  pub admitted : admits_load i.state ≡ true
  pub sheet : LoadedSheet
  pub passed : verdict bytes ≡ Ok (sheet_tables sheet)
  pub copied : bytes_of sheet ≡ bytes
  pub inner : j ≡ opened_with i sheet
  pub cells : n ≡ empty

-- a sheet that did not pass is not
pub record LoadRefused (m : Map) (i : Inner) (bytes : List ℕ) (f : Fault) (n : Map) (j : Inner) : Type 0 where
  pub admitted : admits_load i.state ≡ true
  pub failed : verdict bytes ≡ Err f
  pub same : Same m i n j

pub record LoadExcluded (m : Map) (i : Inner) (n : Map) (j : Inner) : Type 0 where
  pub not_admitted : admits_load i.state ≡ false
  pub same : Same m i n j

-- a number is pulled, and its cell given back
pub record Pulls (m : Map) (i : Inner) (x : ℕ) (n : Map) (j : Inner) : Type 0 where
  pub is_done : i.state ≡ Done
  pub some_word : slot_word i.result ≡ 0 → ⊥
  pub number : x ≡ (words_in (m (slot_word i.result))).element
  pub inner : j ≡ with_result i (ListOf (words_in (m (slot_word i.result))).tail (slot_type i.result))
  pub cells : n ≡ without m (slot_word i.result)

-- the result is at its end
pub record PullEnds (m : Map) (i : Inner) (n : Map) (j : Inner) : Type 0 where
  pub is_done : i.state ≡ Done
  pub no_word : slot_word i.result ≡ 0
  pub inner : j ≡ opened i
  pub cells : n ≡ m

pub record ExcludedFrom (a : State) (m : Map) (i : Inner) (n : Map) (j : Inner) : Type 0 where
  pub other_state : i.state ≡ a → ⊥
  pub same : Same m i n j

-- function 0 starts on what is entered
pub record Funds (capacity : ℕ) (m : Map) (i : Inner) (n : Map) (j : Inner) : Type 0 where
  pub is_open : i.state ≡ Open
  pub sheet : LoadedSheet
  pub loaded : i.sheet ≡ Some sheet
  pub parameters : are_parameters (sheet_of sheet) (input_stack i) ≡ true
  pub paid : price (moment i) ≤ free capacity m
  pub inner : j ≡ started i (first_frame (sheet_of sheet) (input_stack i))
  pub cells : n ≡ m

-- what is entered are not the parameters
pub record FundMistaken (m : Map) (i : Inner) (n : Map) (j : Inner) : Type 0 where
  pub is_open : i.state ≡ Open
  pub sheet : LoadedSheet
  pub loaded : i.sheet ≡ Some sheet
  pub others : are_parameters (sheet_of sheet) (input_stack i) ≡ false
  pub same : Same m i n j

-- they are, and fewer cells are free than the price
pub record FundUnpaid (capacity : ℕ) (m : Map) (i : Inner) (asked : ℕ) (n : Map) (j : Inner) : Type 0 where
  pub is_open : i.state ≡ Open
  pub sheet : LoadedSheet
  pub loaded : i.sheet ≡ Some sheet
  pub parameters : are_parameters (sheet_of sheet) (input_stack i) ≡ true
  pub its_price : asked ≡ price (moment i)
  pub unpaid : free capacity m < price (moment i)
  pub same : Same m i n j
