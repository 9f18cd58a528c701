use Rattle.std.proofs.Common.{◌∙◌}
use Rattle.intmap_text.proofs.SplitLemmas.{place_of_end}
use Rattle.intmap_text.proofs.split.line_len.Goals as goal

pub returns : goal.returns
returns c = c.unwrap_or.ensures ∙ place_of_end c.args.text.now c.memchr.result c.memchr.ensures
