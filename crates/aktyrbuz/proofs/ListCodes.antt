-- The codes of reading and writing hold of every outcome: what the tables say of the definitions, carried over the contract's equation.
use mathlib.Core.Path.{◌≡◌, refl, sym, ap, ◌∙◌}
use Prim.Native.Nat.{ℕ}
use Rattle.std.specs.Prelude.{Ok}
use Rattle.codes.specs.Refusal.{refused}
use Rattle.codes.specs.declared.Code.{Code}
use Rattle.reader.specs.Read.{ReadOutcome}
use Rattle.read_list.specs.Answer.{ReadAnswer}
use Rattle.reader.proofs.Promises as reading
use Rattle.writer.specs.Write.{WriteOutcome}
use Rattle.write_laws.proofs.Words as writing
use Rattle.aktyrbuz.specs.ListCodes.{ReadDone, ReadCodes, WriteCodes, WrittenSize}
use Rattle.aktyrbuz.proofs.Calls.{read_equation, write_equation}

answered : (o : ReadOutcome) → ((c : Code) (p : ℕ) → o.answer ≡ refused c p → ⊥) → ReadDone o
answered o none = go o.answer refl
  where
    go : (r : ReadAnswer) → o.answer ≡ r → ReadDone o
    go (Ok r) e = record { splines = r.splines; points = r.points; adjustment = r.adjustment; is = e }
    go (refused c p) e = absurd (none c p e)

pub read_codes : ReadCodes
read_codes = record {
  exactly = λ l configured pixels rooms o r c p.
      let is = read_equation l configured pixels rooms o r in (
        λ e. reading.refused_exactly configured pixels rooms l o is c p e,
        λ g. (reading.given_exactly configured pixels rooms l o is c p g).answer,
      );
  told = λ l configured pixels rooms o r c p g. reading.given_exactly configured pixels rooms l o (read_equation l configured pixels rooms o r) c p g;
  else_done = λ l configured pixels rooms o r none.
      answered o (λ c p e. none c p (reading.refused_exactly configured pixels rooms l o (read_equation l configured pixels rooms o r) c p e));
}

pub write_codes : WriteCodes
write_codes = record {
  exactly = λ ns ss ds cs a configured pixels room o w c p.
      let is = ap (λ (u : WriteOutcome). u.answer) (write_equation ns ss ds cs a configured pixels room o w) in
      let t = writing.refused_exactly_when ns ss ds cs a configured pixels room c p in
      (λ e. t.0 (sym is ∙ e), λ g. is ∙ t.1 g);
  told = λ ns ss ds cs a configured pixels room o w c p g.
      let eq = write_equation ns ss ds cs a configured pixels room o w in
      let is = ap (λ (u : WriteOutcome). u.answer) eq in
      writing.refused_outcome ns ss ds cs a configured pixels room c p o eq (is ∙ (writing.refused_exactly_when ns ss ds cs a configured pixels room c p).1 g);
  done = λ ns ss ds cs a configured pixels room o w n.
      let is = ap (λ (u : WriteOutcome). u.answer) (write_equation ns ss ds cs a configured pixels room o w) in
      let t = writing.done_exactly_when ns ss ds cs a configured pixels room n in
      (λ e. t.0 (sym is ∙ e), λ g. is ∙ t.1 g);
}

pub written_size : WrittenSize
written_size ns ss ds cs a configured pixels room o w n e = ((write_codes.done ns ss ds cs a configured pixels room o w n).0 e).all

-- Assumes nothing.
