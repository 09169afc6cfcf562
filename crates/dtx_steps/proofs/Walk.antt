-- What is made over some steps of a piece.
use Rattle.std.proofs.Common.{◌≡◌, ℕ, ◌+◌, ◌-◌, ◌*◌, ◌/◌, ◌%◌, ◌^◌, ◌<◌, ◌≤◌, List, [], ◌++◌, length, take, drop}
use Rattle.std.proofs.Common.{sym, ap, ap₂, subst, ◌∙◌, append_assoc, arith}
use Rattle.std.proofs.lemmas.List.{append-nil, take_all, drop-drop, drop_at, length-append, length-drop, length-take-le}
use Rattle.std.proofs.lemmas.List.{nil_from_length}
use Rattle.std.proofs.Math.Nat.{div-add-mod, le_of_mul-le-mul_left, mul-add, mul-div-le, mul-div_cancel_left}
use Rattle.std.proofs.Math.Nat.{mul-le-mul_left, mul-sub}
use Rattle.std.proofs.Math.Seq.{take-add}
use Rattle.dtx_engine.specs.Made.{Made, both, joined, only}
use Rattle.dtx_engine.specs.Recipe.{IsFed, Recipe}
use Rattle.dtx_steps.specs.Stepped.{IsStepped}

joined-none : (m : Made) → joined m (only []) ≡ m
joined-none m = ap₂ both (append-nil m.first) (append-nil m.second)

-- no step yet
pub fed_none : (recipe : Recipe) (given : List ℕ) (stands : List ℕ → Type 0) (holds : Made) → holds ≡ only []
    → stands given → IsFed recipe given [] stands holds
fed_none recipe given stands holds empty stand = record {
  stand = subst stands (sym (append-nil given)) stand;
  made = ap recipe.made (append-nil given) ∙ sym (joined-none (recipe.made given))
      ∙ ap (joined (recipe.made given)) (sym empty);
}

-- one step more
pub fed_on : (recipe : Recipe) (given bytes : List ℕ) (m n end : ℕ) (stands : List ℕ → Type 0) (holds : Made)
    → m + n ≡ end
    → IsStepped recipe (given ++ take m bytes) (take n (drop m bytes)) stands (recipe.made given) holds
    → IsFed recipe given (take end bytes) stands holds
fed_on recipe given bytes m n end stands holds at stepped =
    let all : (given ++ take m bytes) ++ take n (drop m bytes) ≡ given ++ take end bytes =
    append_assoc given (take m bytes) (take n (drop m bytes))
    ∙ ap (λ b. given ++ b) (sym (take-add m n bytes) ∙ ap (λ k. take k bytes) at) in
    record { stand = subst stands all stepped.stand; made = ap recipe.made (sym all) ∙ stepped.made }

-- ---- what is left of a piece

-- the bytes that are left of it
pub part_left : (u done m : ℕ) (bytes : List ℕ) → m ≡ length bytes - u * done
    → take m (drop (u * done) bytes) ≡ drop (u * done) bytes
part_left u done m bytes is =
    take_all m (drop (u * done) bytes) (omega (arith, is, length-drop (u * done) bytes))

-- how many units they have
pub units_left : (u done m : ℕ) (bytes all : List ℕ) → 0 < u → length all % u ≡ 0 → length bytes ≡ length all
    → m ≡ length bytes - u * done → length (take m (drop (u * done) bytes)) / u ≡ length all / u - done
units_left u done m bytes all some whole same is =
    let left : length (take m (drop (u * done) bytes)) ≡ u * (length all / u - done) =
    ap (λ (xs : List ℕ). length xs) (part_left u done m bytes is)
    ∙ omega (
      arith,
      same,
      length-drop (u * done) bytes,
      div-add-mod (length all) u,
      whole,
      mul-sub u (length all / u) done,
    ) in
    ap (λ (n : ℕ). n / u) left ∙ mul-div_cancel_left (length all / u - done) some

-- where they begin
pub unit_within : (u done : ℕ) (bytes : List ℕ) → done ≤ length bytes / u → u * done ≤ length bytes
unit_within u done bytes fits = omega (arith, mul-div-le (length bytes) u, mul-le-mul_left u fits)

-- they are as they were, behind a step that left them so
pub rest_on : (u done more m : ℕ) (all bytes new : List ℕ) → u * done ≤ length bytes → m ≡ length bytes - u * done
    → drop (u * done) bytes ≡ drop (u * done) all
    → drop (u * more) new ≡ drop (u * more) (take m (drop (u * done) bytes))
    → drop (u * (done + more)) (take (u * done) bytes ++ (new ++ drop m (drop (u * done) bytes)))
    ≡ drop (u * (done + more)) all
rest_on u done more m all bytes new fits is same kept =
    let at : u * done + u * more ≡ u * (done + more) = omega (arith, mul-add u done more) in
    let none : drop m (drop (u * done) bytes) ≡ [] =
    nil_from_length (drop m (drop (u * done) bytes))
    (omega (arith, is, length-drop m (drop (u * done) bytes), length-drop (u * done) bytes)) in
    ap (λ b. drop (u * (done + more)) (take (u * done) bytes ++ b)) (ap (λ b. new ++ b) none ∙ append-nil new)
    ∙ ap (λ n. drop n (take (u * done) bytes ++ new)) (sym at)
    ∙ sym (drop-drop (u * more) (u * done) (take (u * done) bytes ++ new))
    ∙ ap (drop (u * more)) (drop_at (take (u * done) bytes) new (u * done) (length-take-le (u * done) bytes fits))
    ∙ kept ∙ ap (drop (u * more)) (part_left u done m bytes is ∙ same) ∙ drop-drop (u * more) (u * done) all
    ∙ ap (λ n. drop n all) at

-- how much was given before them
pub given_long : (u first done : ℕ) (given bytes : List ℕ) → u * done ≤ length bytes → length given ≡ u * first
    → length (given ++ take (u * done) bytes) ≡ u * (first + done)
given_long u first done given bytes fits long =
    omega (
      arith,
      length-append given (take (u * done) bytes),
      length-take-le (u * done) bytes fits,
      long,
      mul-add u first done,
    )

-- their numbers stay below the limit
pub units_few : (u first limit : ℕ) (bytes : List ℕ) → 0 < u → u * first + length bytes ≤ u * limit
    → first + length bytes / u ≤ limit
units_few u first limit bytes some most =
    le_of_mul-le-mul_left (omega (arith, mul-add u first (length bytes / u), mul-div-le (length bytes) u, most)) some
