-- `inv_adjusted_quant` of spline.rs, and the four rows of coefficients as `dequantize` makes them. Definitions only.
-- A spline's coefficients are 128 numbers in a row: 32 each for X, Y, B and sigma.
use Rattle.std.specs.Prelude.{ℕ, zero, suc, ◌+◌, cond, List, [], ◌∷◌, ◌++◌, get_or, ℤ, pos, ◌==◌, int_le, slice_index_or, Float}
use Rattle.std.specs.Float.{nan, binary32}
use Rattle.std.specs.Float.Ieee.{of_int}
use Rattle.numbers.specs.Arith.{f, 1·0, ◌⊕◌, ◌⊖◌, ◌⊗◌, ◌⊘◌}
use Rattle.dequantize.specs.declared.coefficients.Rows.{Rows}

abbrev 0·125 : Float
0·125 = f 0x3e000000

abbrev FRAC_1_SQRT_2 : Float
FRAC_1_SQRT_2 = f 0x3f3504f3

-- CHANNEL_WEIGHT: X, Y, B and sigma
abbrev 0·0042 : Float
0·0042 = f 0x3b89a027

abbrev 0·075 : Float
0·075 = f 0x3d99999a

abbrev 0·07 : Float
0·07 = f 0x3d8f5c29

abbrev pub 0·3333 : Float
0·3333 = f 0x3eaaa64c

-- g 0, g 1, .. up to g (n - 1)
unfoldable pub table : {A : Type 0} → (ℕ → A) → ℕ → List A
table g zero = []
table g (suc n) = table g n ++ (g n ∷ [])

-- 1.0 / (1.0 + 0.125 * adjustment), or 1.0 - 0.125 * adjustment for one below 0
unfoldable pub inv_adjusted_quant : ℤ → Float
inv_adjusted_quant adjustment =
    let a = of_int binary32 adjustment in
    cond (int_le (pos 0) adjustment) (1·0 ⊘ (1·0 ⊕ 0·125 ⊗ a)) (1·0 ⊖ 0·125 ⊗ a)

-- «FRAC_1_SQRT_2» at index 0, else 1.0
abbrev pub inv_dct_factor : ℕ → Float
inv_dct_factor i = cond (i == 0) FRAC_1_SQRT_2 1·0

-- the coefficient i of the row that begins at index `from`
unfoldable pub coefficient_at : List ℤ → ℕ → Float → Float → ℕ → Float
coefficient_at c from weight quant i = of_int binary32 (slice_index_or c (from + i) (pos 0)) ⊗ inv_dct_factor i ⊗ weight ⊗ quant

unfoldable pub coefficient_row : List ℤ → ℕ → Float → Float → List Float
coefficient_row c from weight quant = table (coefficient_at c from weight quant) 32

-- x + k * y, cell by cell
abbrev pub gained_at : List Float → Float → List Float → ℕ → Float
gained_at x k y i = get_or x i nan ⊕ k ⊗ get_or y i nan

unfoldable pub gained_of : List Float → Float → List Float → List Float
gained_of x k y = table (gained_at x k y) 32

-- X and B gain from Y
unfoldable pub gained_rows : List ℤ → Float → Float → Float → Rows
gained_rows c quant ytox ytob =
    let y = coefficient_row c 32 0·075 quant in
    record {
      x = gained_of (coefficient_row c 0 0·0042 quant) ytox y;
      y = y;
      b = gained_of (coefficient_row c 64 0·07 quant) ytob y;
      sigma = coefficient_row c 96 0·3333 quant;
    }
