use Rattle.std.proofs.Common.{◌≡◌, ◌-◌, ◌≤◌, length, drop, sym, ap, ◌∙◌, subst, arith, length-drop}
use mir.Facts.{Fits-lt-pow}
use Rattle.std.proofs.lemmas.List.{take_rest}
use Rattle.records.specs.Cutting.{cut, moved}
use Rattle.records.specs.Inverse.{Bytes, Reads}
use Rattle.records.proofs.Fronts.{bytes_drop}
use Rattle.records.proofs.ReadBack.{cut_reads, moved_fits}
use Rattle.records.proofs.reading.cut_at.Goals as goal

pub returns : goal.returns
returns c =
    let bytes = c.args.bytes.now in
    let place = c.args.place in
    let within = c.requires in
    let rest = drop place bytes in
    let answer : c.cut_front.result ≡ cut rest place = c.cut_front.ensures ∙ ap (λ xs. cut xs place) (take_rest bytes place) in
    let all : Bytes rest = bytes_drop place bytes (λ i. Fits-lt-pow (c.type_inv.bytes i)) in
    let fits : moved (cut rest place) ≤ length bytes - place = simp length-drop at (moved_fits rest place all) in
    record {
      answer = answer;
      reads = subst (Reads rest) (sym answer) (cut_reads rest place all);
      fits = omega (arith, ap moved answer);
    }
