-- The two calls of a summary by their contracts: which outcomes a contract allows, and which runs of refreshes. Definitions only.
-- `Post` is a contract as it was proved, as in Calls.antt.
use Rattle.std.specs.Prelude.{◌≡◌, List, [], ◌∷◌, ℕ, length}
use contract.Lifetimes.{Lfts}
use Rattle.desks.specs.Desks.{Sight, sight_in}
use Rattle.checks.specs.Tables.{Table, table_in}
use Rattle.bands.specs.Calls.{BandsOutcome, leaves}
use Rattle.bands.specs.BandsAnswer.{BandsAnswer}
use Rattle.bands.specs.BandsAnswer as BandsAnswer
use Rattle.bands.proofs.make.Reads as make
use Rattle.bands.proofs.refresh.Reads as refresh

-- making the summary of a table for a desk and a width, with so many cells lent
pub data BandsCall : Table → Sight → ℕ → ℕ → BandsOutcome → Type 0 where
  makes : (κs : Lfts 5) (table : _) (sight : _) (width : _) (cells : _) (r : _)
      (table' : _) (sight' : _) (width' : _) (cells' : _)
      → make.Post κs (table, (sight, (width, (cells, tt)))) r
      (table', (sight', (width', (cells', tt))))
      → BandsCall (table_in table.now) (sight_in sight.now) width (length cells.now) (leaves r cells'.now)

-- refreshing one band of the summary in these cells
pub data BandCall : Table → Sight → ℕ → ℕ → List ℕ → BandsOutcome → Type 0 where
  refreshes : (κs : Lfts 5) (table : _) (sight : _) (width : _) (cells : _) (band : _) (r : _)
      (table' : _) (sight' : _) (width' : _) (cells' : _) (band' : _)
      → refresh.Post κs (table, (sight, (width, (cells, (band, tt))))) r
      (table', (sight', (width', (cells', (band', tt)))))
      → BandCall (table_in table.now) (sight_in sight.now) width band cells.now (leaves r cells'.now)

-- these bands refreshed one after another, each call done: from the cells c to z
pub data BandCalls (t : Table) (s : Sight) (W : ℕ) : List ℕ → List ℕ → List ℕ → Type 0 where
  none : {c : List ℕ} → BandCalls t s W [] c c
  more : {b : ℕ} {bs c z : List ℕ} {o : BandsOutcome} {n : ℕ} → BandCall t s W b c o → o.answer ≡ BandsAnswer.Done n → BandCalls t s W bs o.cells z → BandCalls t s W (b ∷ bs) c z
