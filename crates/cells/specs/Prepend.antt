-- An element put before a list, over a quota: what that answers and leaves. A list is the number 0, which is empty, or the
-- number of a held cell.
use Rattle.std.specs.Prelude.{◌≡◌, ℕ, Bool, true, false, ◌||◌, is_some, Ok, Err, Result, ◌==◌}
use Rattle.cells.specs.declared.words.Words.{Words}
use Rattle.cells.specs.declared.fault.StoreFault.{StoreFault}
use Rattle.cells.specs.declared.prepend.PrependFault.{PrependFault}
use Rattle.cells.specs.declared.prepend.PrependFault.TheVariants.{NoList, Store}
use Rattle.cells.specs.declared.quota.Quota.{Quota}
use Rattle.cells.specs.Cells.{Map}
use Rattle.cells.specs.Outcomes.{Placed, Refused}
use Rattle.cells.specs.Quota.{quota_cells, quota_capacity, quota_code}

-- the words of a node
abbrev pub node_words : ℕ → ℕ → Words
node_words element tail = record { element = element; tail = tail; third = 0 }

-- whether a number is that of a list
abbrev pub is_list : Map → ℕ → Bool
is_list m number = number == 0 || is_some (m number)

-- the node is placed as a take places it
pub record Prepended (m : Map) (capacity element list node : ℕ) (m_after : Map) (capacity_after : ℕ) : Type 0 where
  pub a_list : is_list m list ≡ true
  pub placed : Placed m capacity (node_words element list) node m_after capacity_after

-- no such list: nothing changes
pub record Missing (m : Map) (capacity list number : ℕ) (m_after : Map) (capacity_after : ℕ) : Type 0 where
  pub no_list : is_list m list ≡ false
  pub which : number ≡ list
  pub same_cells : m_after ≡ m
  pub same_capacity : capacity_after ≡ capacity

-- no room: the store's fault whole
pub record Unplaced (m : Map) (capacity code list : ℕ) (fault : StoreFault) (m_after : Map) (capacity_after : ℕ) : Type 0 where
  pub a_list : is_list m list ≡ true
  pub refused : Refused m capacity code fault m_after capacity_after

-- by what is answered
abbrev pub Outcome : Map → ℕ → ℕ → ℕ → ℕ → Result ℕ PrependFault → Map → ℕ → Type 0
Outcome m capacity code element list (Ok node) m_after capacity_after = Prepended m capacity element list node m_after capacity_after
Outcome m capacity code element list (Err (NoList number)) m_after capacity_after = Missing m capacity list number m_after capacity_after
Outcome m capacity code element list (Err (Store fault)) m_after capacity_after = Unplaced m capacity code list fault m_after capacity_after

-- the same of a quota, where `cells`, `capacity` and `code` give the meaning of the store below
abbrev pub Prepends : {S : Type 0} → (S → Map) → (S → ℕ) → (S → ℕ) → Quota S → ℕ → ℕ → Result ℕ PrependFault → Quota S → Type 0
Prepends cells capacity code before element list answer after =
    Outcome (quota_cells cells before) (quota_capacity capacity before) (quota_code cells code before) element list answer (quota_cells cells after) (quota_capacity capacity after)
