-- A step does one of three things: its branch goes on behind it, ends with it, or forks.
use Rattle.std.proofs.Common.{◌≡◌, ℕ, refl}
use Rattle.records.specs.declared.kinds.Step.{Step as Action}
use Rattle.rules.specs.Branches.{Straight, is_const, is_arith, is_empty, is_cons, is_call, Ending, Forking, is_match, is_if}

pub straight_forks : {s : Action} {n : ℕ} → Straight s → Forking s n → ⊥
straight_forks is_const f = elim f [ ]
straight_forks is_arith f = elim f [ ]
straight_forks is_empty f = elim f [ ]
straight_forks is_cons f = elim f [ ]
straight_forks is_call f = elim f [ ]

pub straight_ends : {s : Action} → Straight s → Ending s → ⊥
straight_ends is_const e = elim e [ ]
straight_ends is_arith e = elim e [ ]
straight_ends is_empty e = elim e [ ]
straight_ends is_cons e = elim e [ ]
straight_ends is_call e = elim e [ ]

pub forks_ends : {s : Action} {n : ℕ} → Forking s n → Ending s → ⊥
forks_ends is_match e = elim e [ ]
forks_ends is_if e = elim e [ ]

pub forks_once : {s : Action} {m n : ℕ} → Forking s m → Forking s n → m ≡ n
forks_once is_match is_match = refl
forks_once is_if is_if = refl
