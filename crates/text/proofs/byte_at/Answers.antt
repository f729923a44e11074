-- `text::byte_at` meets its contract: before the end it is the text's byte, and at the end white space.
use mathlib.Core.Path.{refl}
use Rattle.text.proofs.Bytes.{byte_inside, byte_end}
use borrow.Author.Rules.{rules}
use Rattle.text.proofs.byte_at.Goals as goal

pub returns-then-i-text : goal.returns-then-i-text
returns-then-i-text c = byte_inside c.args.text.now c.args.i c.if-i-text.true refl

pub returns-else-i-text : goal.returns-else-i-text
returns-else-i-text c = byte_end c.args.text.now c.args.i c.if-i-text.false (search rules)
