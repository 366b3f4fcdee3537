-- The laws of the meaning, for stores and the code above them. Rests on the counts.
use Rattle.std.proofs.Common.{zero, suc, Some, None, ap, ⊎_elim, arith}
use Rattle.std.proofs.lemmas.Bool.{cases_lt}
use Rattle.cells.specs.Cells.{last_number, one_if}
use Rattle.cells.specs.Laws.{PutReadsBack, PutLeavesTheRest, RemovalReadsNone, RemovalLeavesTheRest, RemovalUndoesPut, EmptyCountsNone, PutCountsOneMore, RemovalCountsOneLess, HeldAreNumbered, Laws}
use Rattle.cells.specs.Counts.{update_here, update_elsewhere, update_back, held_not_unheld, held_one, count_update, count_empty}

pub put_reads_back : PutReadsBack
put_reads_back m k words = update_here m k (Some words)

pub put_leaves_the_rest : PutLeavesTheRest
put_leaves_the_rest m k words = update_elsewhere m k (Some words)

pub removal_reads_none : RemovalReadsNone
removal_reads_none m k = update_here m k None

pub removal_leaves_the_rest : RemovalLeavesTheRest
removal_leaves_the_rest m k = update_elsewhere m k None

pub removal_undoes_put : RemovalUndoesPut
removal_undoes_put m k words unheld = update_back m k (Some words) None unheld

pub empty_counts_none : EmptyCountsNone
empty_counts_none = count_empty

pub put_counts_one_more : PutCountsOneMore
put_counts_one_more m k words small unheld = omega (arith, count_update m k (Some words) small, ap one_if unheld)

pub removal_counts_one_less : RemovalCountsOneLess
removal_counts_one_less m k small held = omega (arith, count_update m k None small, held_one (m k) held)

pub held_are_numbered : HeldAreNumbered
held_are_numbered m zero numbered held = absurd (held_not_unheld m 0 held numbered.not_zero)
held_are_numbered m (suc k) numbered held = (omega arith, ⊎_elim (λ above. absurd (held_not_unheld m (suc k) held (numbered.not_above (suc k) above))) (λ small. small) (cases_lt last_number (suc k)))

pub laws : Laws
laws = record {
  put_reads_back = put_reads_back;
  put_leaves_the_rest = put_leaves_the_rest;
  removal_reads_none = removal_reads_none;
  removal_leaves_the_rest = removal_leaves_the_rest;
  removal_undoes_put = removal_undoes_put;
  empty_counts_none = empty_counts_none;
  put_counts_one_more = put_counts_one_more;
  removal_counts_one_less = removal_counts_one_less;
  held_are_numbered = held_are_numbered;
}
