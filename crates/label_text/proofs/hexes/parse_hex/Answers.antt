use Rattle.label_text.proofs.Spelling.{spelled}
use Rattle.label_text.proofs.hexes.parse_hex.Goals as goal

pub returns : goal.returns
returns c = record { parsed = c.read_text.ensures; spelled = spelled c.args.text.now c.read_text.result c.read_text.ensures }
