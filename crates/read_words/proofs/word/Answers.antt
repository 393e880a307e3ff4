use Rattle.read_words.proofs.Words.{word-packed, no_word}
use borrow.Author.Tests.{lt-ltb}
use lib.Dec.{ltb}
use lib.ListN.{length}
use mathlib.Core.Path.{refl, sym}
use native.Mathlib.Omega.{arith}
use Rattle.rules.specs.Base as Base
use Rattle.read_words.specs.Words as Words
use Rattle.read_words.proofs.word.Goals as goal

-- No word is longer than 8 bytes or begins with 0; any other field has the number of what it packs to.
pub returns-then-w-gt-BYTES : goal.returns-then-w-gt-BYTES
unfolding Words.opened Base.opened
returns-then-w-gt-BYTES c = sym (no_word (λ x. ltb 8 (length x)) c.args.w.now (lt-ltb 8 (length c.args.w.now) c.if-w-gt-BYTES.true) refl)

pub returns : goal.returns
returns c = rw (c.numbered.ensures, c.pack.ensures) (sym (word-packed c.args.w.now (λ i. omega (arith, c.type_inv.w i)) (omega (arith, c.if-byte_at-eq0.false, c.byte_at.ensures))))
