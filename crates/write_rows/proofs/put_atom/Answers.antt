use Rattle.write_rows.proofs.Puts.{put_then, word_size}
use native.Mathlib.Omega.{arith}
use mathlib.Core.Path.{◌∙◌}
use Rattle.write_rows.specs.Puts.{put_atom, bytes_of_atom}
use Rattle.write_rows.proofs.put_atom.Goals as goal

pub returns : goal.returns
unfolding put_atom bytes_of_atom
returns c =
    put_then _ _ _ _ _ (omega arith)
    (put_then _ _ _ _ _ (omega arith) c.put_four.ensures (c.put_word.ensures ∙ word_size _ _ _))
    (c.put_word-2.ensures ∙ word_size _ _ _)
    ∙ rw (c.word_of-l.ensures, c.word_of-r.ensures, c.from.ensures, c.from-2.ensures, c.from-3.ensures, c.tag_of.ensures, c.tag_of-2.ensures)
