-- Laws of refusals: two that are equal have one code and one place, and what `?` returns is the refusal that it was given.
use mathlib.Core.Path.{◌≡◌, sym, ap, ◌∙◌}
use Prim.Native.Nat.{ℕ}
use Rattle.std.specs.Prelude.{Result, Ok, Err}
use Rattle.std.specs.Result.{IsErrAnd}
use Rattle.codes.specs.declared.Code.{Code}
use Rattle.codes.specs.Refusal.{Refusal}

pub same_refusal : {A : Type 0} {c d : Code} {p q : ℕ} → ◌≡◌ {A = Result A Refusal} (Err (c, p)) (Err (d, q)) → (c ≡ d) × (p ≡ q)
same_refusal {A} {c} {d} {p} {q} e =
    let pair : ◌≡◌ {A = Refusal} (c, p) (d, q) = cc in
    (ap (λ (r : Refusal). r.0) pair, ap (λ (r : Refusal). r.1) pair)

-- the same of the answers of another type
pub refused_alike : {A B : Type 0} {c d : Code} {p q : ℕ} → ◌≡◌ {A = Result A Refusal} (Err (c, p)) (Err (d, q)) → ◌≡◌ {A = Result B Refusal} (Err (c, p)) (Err (d, q))
refused_alike {A} {B} {c} {d} {p} {q} e =
    let pair : ◌≡◌ {A = Refusal} (c, p) (d, q) = cc in
    ap (λ (r : Refusal). Err r) pair

pub passed_on : {A : Type 0} (r : Result A Refusal) (e : Refusal) (o : Result A Refusal) → IsErrAnd r (λ y. y ≡ e) → o ≡ Err e → r ≡ o
passed_on (Ok x) e o is h = absurd is
passed_on (Err y) e o is h = ap Err is ∙ sym h

-- Assumes nothing.
