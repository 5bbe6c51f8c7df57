-- Slots of a grid by their numbers.
use Rattle.std.proofs.Common.{◌≡◌, ℕ, suc, zero, ◌+◌, ◌*◌, ◌<◌, ◌≤◌, ◌/◌, ◌%◌, sym, ◌∙◌, ap, arith}
use Rattle.std.proofs.Math.Nat.{mul-le-mul_left, mul-le-mul_right, mul-zero, div-lt_iff_lt-mul}

below_product : (size a count i : ℕ) → a < count → i < size → a * size + i < count * size
below_product size a count i a_in i_in = omega (arith, mul-le-mul_right size a_in)

-- a number below the product, by division
pub record IsDivided (layers rows columns n : ℕ) : Type 0 where
  pub some_columns : 0 < columns
  pub some_rows : 0 < rows
  pub layer : n / columns / rows < layers
  pub row : n / columns % rows < rows
  pub column : n % columns < columns
  pub is : n ≡ (n / columns / rows * rows + n / columns % rows) * columns + n % columns

some_of : (a b n : ℕ) → n < a * b → 0 < b
some_of a zero n below = absurd (omega (arith, mul-zero a, below))
some_of a (suc b) n below = omega arith

pub by_division : (layers rows columns n : ℕ) → n < layers * rows * columns → IsDivided layers rows columns n
by_division layers rows columns n below =
    let some_columns = some_of (layers * rows) columns n below in
    let lines : n / columns < layers * rows = (div-lt_iff_lt-mul some_columns).1 below in
    let some_rows = some_of layers rows (n / columns) lines in
    let line : n / columns / rows * rows + n / columns % rows ≡ n / columns = omega (arith, some_rows) in
    record {
      some_columns = some_columns;
      some_rows = some_rows;
      layer = (div-lt_iff_lt-mul some_rows).1 lines;
      row = omega (arith, some_rows);
      column = omega (arith, some_columns);
      is = let e : n / columns * columns + n % columns ≡ n = omega (arith, some_columns) in sym e ∙ ap (λ l. l * columns + n % columns) (sym line);
    }

-- a slot's number, and what is computed on the way to it
pub record IsNumbered (layers rows columns k j i : ℕ) : Type 0 where
  pub line_begin : k * rows ≤ layers * rows * columns
  pub line : k * rows + j ≤ layers * rows * columns
  pub column_begin : (k * rows + j) * columns ≤ layers * rows * columns
  pub below : (k * rows + j) * columns + i < layers * rows * columns

pub by_number : (layers rows columns k j i : ℕ) → k < layers → j < rows → i < columns → IsNumbered layers rows columns k j i
by_number layers rows columns k j i k_in j_in i_in =
    let lines = below_product rows k layers j k_in j_in in
    let all = below_product columns (k * rows + j) (layers * rows) i lines i_in in
    let some : 1 ≤ columns = omega (arith, i_in) in
    let grows : (layers * rows) * 1 ≤ layers * rows * columns = mul-le-mul_left (layers * rows) some in
    record {
      line_begin = omega (arith, lines, grows);
      line = omega (arith, lines, grows);
      column_begin = omega (arith, all);
      below = all;
    }
