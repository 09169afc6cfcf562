-- What the blocks of a batch give, one after another.
use Rattle.std.proofs.Common.{◌≡◌, ℕ, zero, suc, ◌+◌, ◌*◌, ◌/◌, ◌%◌, ◌<◌, ◌≤◌, List, [], ◌++◌, length, get_or, take}
use Rattle.std.proofs.Common.{drop, sym, ap, ap₂, ◌∙◌, append_assoc, arith, add-one}
use Rattle.std.specs.List.{range_with_len, flat_map}
use Rattle.std.proofs.Math.Seq.{take-add}
use Rattle.std.proofs.lemmas.List.{append-nil, length-append, length-drop, length-take-le, take_all}
use Rattle.std.proofs.lemmas.Grind.{flat_map-append}
use Rattle.dtx_lists.proofs.Range.{range_with_len-parts}
use Rattle.dtx_outer.specs.Inner.{IsTaken}
use Rattle.dtx_outer.specs.declared.inner.Taken.{Taken}
use Rattle.dtx_outer.specs.declared.inner.Taken.TheVariants.{None}
use Rattle.dtx_dvb.specs.Read.{Read}
use Rattle.dtx_dvb.specs.Randomizer.{randomizer_bytes}
use Rattle.dtx_dvb.specs.Reading.{read_dvb}
use Rattle.dtx_dvb.specs.Given.{all_given, finished, given, given_in}
use Rattle.dtx_dvb.proofs.Giving.{gives}

-- Blocks were taken behind the bytes y, four for each element of `packets`, and their packets were finished.
pub record AreTaken (y bytes : List ℕ) (old packets : List (List (List ℕ))) (taken : List (List Taken)) : Type 0 where
  pub white : List ℕ
  pub new : List (List (List ℕ))
  pub blocks : ℕ
  pub white_is : white ≡ randomizer_bytes
  pub behind : length y ≡ 204 * blocks
  pub long : length bytes ≡ 816 * length packets
  pub taken_each : (q p : ℕ) → q < length packets → p < 4
      → IsTaken 204 188 12 17 white (y ++ take (204 * (4 * q + p)) bytes)
      (take 204 (drop (204 * (4 * q + p)) bytes)) (get_or (get_or old q []) p []) (get_or (get_or new q []) p [])
      (get_or (get_or taken q []) p None)
  pub finished_each : (q p : ℕ) → q < length packets → p < 4
      → get_or (get_or packets q []) p []
      ≡ finished (get_or (get_or taken q []) p None) (get_or (get_or new q []) p [])

pub long_part : (p n : ℕ) (bytes : List ℕ) → length bytes ≡ 816 * n → p ≤ 4 * n
    → length (take (204 * p) bytes) ≡ 204 * p
long_part p n bytes e l = length-take-le (204 * p) bytes (omega (arith, e, l))

long_block : (p n : ℕ) (bytes : List ℕ) → length bytes ≡ 816 * n → p < 4 * n
    → length (take 204 (drop (204 * p) bytes)) ≡ 204
long_block p n bytes e l = length-take-le 204 (drop (204 * p) bytes) (omega (arith, length-drop (204 * p) bytes, e, l))

-- block p is one of four
of_four : (p : ℕ) → 4 * (p / 4) + p % 4 ≡ p
of_four p = omega arith

-- the first n of them
first_given : (y bytes : List ℕ) (old packets : List (List (List ℕ))) (taken : List (List Taken)) (n : ℕ)
    → n ≤ 4 * length packets → AreTaken y bytes old packets taken → read_dvb (y ++ take (204 * n) bytes)
    ≡ read_dvb y ++ flat_map (given_in taken packets) (range_with_len 0 n)
first_given y bytes old packets taken zero l t = ap read_dvb (append-nil y) ∙ sym (append-nil (read_dvb y))
first_given y bytes old packets taken (suc n) l t =
    let fours : ℕ = length packets in
    let q : ℕ = n / 4 in
    let p : ℕ = n % 4 in
    let m : n < 4 * fours = omega (arith, l) in
    let long : length bytes ≡ 816 * fours = t.long in
    let behind : length y ≡ 204 * t.blocks = t.behind in
    let here : q < fours = omega (arith, m) in
    let one : p < 4 = omega arith in
    ap read_dvb (sym (more n))
    ∙ gives t.white (y ++ take (204 * n) bytes) (take 204 (drop (204 * n) bytes)) (get_or (get_or old q []) p [])
    (get_or (get_or t.new q []) p []) (t.blocks + n) (get_or (get_or taken q []) p None) t.white_is
    (omega (arith, length-append y (take (204 * n) bytes), behind, long_part n fours bytes long (omega (arith, m))))
    (long_block n fours bytes long m) (grind (arith, of_four))
    ∙ ap₂ (λ (xs : List Read) (b : List ℕ). xs ++ given (get_or (get_or taken q []) p None) b)
    (first_given y bytes old packets taken n (omega (arith, m)) t) (sym (t.finished_each q p here one))
    ∙ append_assoc (read_dvb y) (flat_map each (range_with_len 0 n)) (each n)
    ∙ ap (λ xs. read_dvb y ++ xs) (sym (one_more n))
  where
    each : ℕ → List Read
    each p = given_in taken packets p

    next : (i : ℕ) → 204 * i + 204 ≡ 204 * suc i
    next i = omega arith

    more : (n : ℕ) → (y ++ take (204 * n) bytes) ++ take 204 (drop (204 * n) bytes) ≡ y ++ take (204 * suc n) bytes
    more n = append_assoc y (take (204 * n) bytes) (take 204 (drop (204 * n) bytes))
        ∙ ap (λ xs. y ++ xs) (sym (take-add (204 * n) 204 bytes) ∙ ap (λ k. take k bytes) (next n))

    one_more : (n : ℕ) → flat_map each (range_with_len 0 (suc n)) ≡ flat_map each (range_with_len 0 n) ++ each n
    one_more n = ap (λ k. flat_map each (range_with_len 0 k)) (sym (add-one n))
        ∙ ap (flat_map each) (range_with_len-parts 0 n 1)
        ∙ flat_map-append each (range_with_len 0 n) (range_with_len (0 + n) 1)
        ∙ ap (λ xs. flat_map each (range_with_len 0 n) ++ xs) (append-nil (each (0 + n))
        ∙ ap each (let e : 0 + n ≡ n = omega arith in e))

pub batch_given : (y bytes : List ℕ) (old packets : List (List (List ℕ))) (taken : List (List Taken))
    → AreTaken y bytes old packets taken → read_dvb (y ++ bytes) ≡ read_dvb y ++ all_given taken packets
unfolding all_given
batch_given y bytes old packets taken t =
    let long : length bytes ≡ 816 * (length packets) = t.long in
    ap (λ xs. read_dvb (y ++ xs)) (sym (take_all (204 * (4 * (length packets))) bytes (omega (arith, long))))
    ∙ first_given y bytes old packets taken (4 * (length packets)) (omega arith) t
