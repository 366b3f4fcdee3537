-- What a quota means over the store below it, and what it promises beyond the interface: its limit, and who refuses.
-- `ok`, `cells`, `capacity` and `code` give the meaning of the store below.
use Rattle.std.specs.Prelude.{◌≡◌, ℕ, ◌<◌, ◌≤◌, min, max, cond, Err, Result, ◌==◌, nat_lt}
use Rattle.cells.specs.declared.words.Words.{Words}
use Rattle.cells.specs.declared.fault.StoreFault.{StoreFault}
use Rattle.cells.specs.declared.quota.Quota.{Quota}
use Rattle.cells.specs.Cells.{Map, count}
use Rattle.cells.specs.Calls.{Takes}

-- the layer code of a quota
abbrev pub own_code : ℕ
own_code = 3

-- the limit that a quota keeps: 0 asks for the capacity below, and no limit falls short of what is held as the quota is made
abbrev pub limit_for : ℕ → ℕ → Map → ℕ
limit_for asked capacity_below m = cond (asked == 0) capacity_below (max asked (count m))

-- a quota holds the cells of the store below
abbrev pub quota_cells : {S : Type 0} → (S → Map) → Quota S → Map
quota_cells cells quota = cells quota.below

-- no more of them than its limit, and than the store below
abbrev pub quota_capacity : {S : Type 0} → (S → ℕ) → Quota S → ℕ
quota_capacity capacity quota = min quota.limit (capacity quota.below)

-- the code with which a take would be refused: while the limit is not reached, the store's below; then the quota's own
abbrev pub quota_code : {S : Type 0} → (S → Map) → (S → ℕ) → Quota S → ℕ
quota_code cells code quota = cond (nat_lt (count (cells quota.below)) quota.limit) (code quota.below) own_code

-- what every call of a quota keeps: what the store below keeps, and no more held than the limit
pub record QuotaOk {S : Type 0} (ok : S → Type 0) (cells : S → Map) (quota : Quota S) : Type 0 where
  pub below_ok : ok quota.below
  pub within_limit : count (cells quota.below) ≤ quota.limit

-- the interface's outcome of a take, for a quota
abbrev pub QuotaTakes : {S : Type 0} → (S → Map) → (S → ℕ) → (S → ℕ) → Quota S → Words → Result ℕ StoreFault → Quota S → Type 0
QuotaTakes cells capacity code = Takes (quota_cells cells) (quota_capacity capacity) (quota_code cells code)

-- beyond the interface: at its own limit a quota refuses with its own code and does not ask below, and under it the
-- answer and the store below are what a take there gives
pub record Limited {S : Type 0} (cells : S → Map) (capacity code : S → ℕ) (before : Quota S) (words : Words) (answer : Result ℕ StoreFault) (after : Quota S) : Type 0 where
  pub refused : before.limit ≤ count (cells before.below) → answer ≡ Err (record { code = own_code })
  pub not_asked : before.limit ≤ count (cells before.below) → after.below ≡ before.below
  pub passed : count (cells before.below) < before.limit → Takes cells capacity code before.below words answer after.below
  pub same_limit : after.limit ≡ before.limit
