-- The check of another maker's table by its contract: which answers the contract allows. Definitions only.
-- `Post` is a contract as it was proved, as in Calls.antt.
use contract.Lifetimes.{Lfts}
use Rattle.checks.specs.Tables.{Table, table_in}
use Rattle.makers.specs.CheckAnswer.{CheckAnswer}
use Rattle.makers_search.proofs.check.Reads as check

-- of a table; nothing is lent to write in, so the answer is all that comes back
pub data CheckCall : Table → CheckAnswer → Type 0 where
  checks : (κs : Lfts 2) (table : _) (r : _)
      (table' : _)
      → check.Post κs (table, tt) r
      (table', tt)
      → CheckCall (table_in table.now) r
