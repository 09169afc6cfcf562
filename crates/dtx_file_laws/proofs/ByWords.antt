-- What the words of each command mean, where it is done.
use Rattle.std.proofs.Common.{◌≡◌, ◌≢◌, ℕ, ◌^◌, ◌<◌, ◌≤◌, ◌&&◌, not, true, false, List, [], ◌∷◌, length, refl, ap}
use Rattle.std.proofs.Common.{arith}
use Rattle.std.specs.Prelude.{Ok, Some, codes, decimal, is_some}
use Rattle.std.specs.FinMap.{get}
use Rattle.std.specs.Str.{bytes_eq}
use Rattle.std.specs.Str.Parse.{AllDigits, digits_value}
use Rattle.std.proofs.lemmas.Bool.{and_from, cond-true, le-leb, ne_eqb}
use Rattle.std.proofs.lemmas.Fmt.{digits_value-decimal}
use Rattle.std.proofs.lemmas.Slice.Eq.{bytes_eq-Decides}
use Rattle.std.proofs.lemmas.Str.Parse.{IsNumeralModel, numerals_by_value, tells_digits}
use Rattle.dtx_forms.specs.Shapes.{coded_packets, packets, segments, single_bytes}
use Rattle.dtx_outside.specs.Shelf.{Files}
use Rattle.dtx_recipes.specs.Adapt.{feeding}
use Rattle.dtx_recipes.specs.DvbCode.{dvb_coding, blocks, dvb_packets}
use Rattle.dtx_recipes.specs.DvbRead.{dvb_reading}
use Rattle.dtx_plan.specs.Plan.{plan_of}
use Rattle.dtx_plan.specs.declared.plan.Plan.{Plan}
use Rattle.dtx_recipes.specs.Acquire.{acquiring}
use Rattle.dtx_recipes.specs.Code.{coding}
use Rattle.dtx_recipes.specs.Excite.{exciting}
use Rattle.dtx_recipes.specs.Mend.{mending_symbols}
use Rattle.dtx_recipes.specs.Receive.{receiving}
use Rattle.dtx_recipes.specs.Refine.{refining}
use Rattle.dtx_words.specs.Fitting.{is_name, number_in, number_within}
use Rattle.dtx_words.specs.Names.{repeated}
use Rattle.dtx_words.specs.declared.rows.Command.TheVariants.{Acquire, Adapt, Code, DvbCode, DvbRead, Excite, Mend}
use Rattle.dtx_words.specs.declared.rows.Command.TheVariants.{Receive, Refine}
use Rattle.dtx_file_laws.proofs.Answered.{IsRead}

-- ---- words without numbers

pub code_read : (words : List (List ℕ)) (input output : List ℕ) (held : Files)
    → words ≡ codes "code" ∷ input ∷ output ∷ [] → IsRead words (is_name input && (is_name output && true)) Code
    (bytes_eq input output) coded_packets coding 0 (output ∷ []) input held
code_read words input output held is = grind arith

pub receive_read : (words : List (List ℕ)) (input output : List ℕ) (held : Files)
    → words ≡ codes "receive" ∷ input ∷ output ∷ [] → IsRead words (is_name input && (is_name output && true)) Receive
    (bytes_eq input output) segments receiving 0 (output ∷ []) input held
receive_read words input output held is = grind arith

pub mend_read : (words : List (List ℕ)) (input output : List ℕ) (held : Files)
    → words ≡ codes "mend" ∷ input ∷ output ∷ [] → IsRead words (is_name input && (is_name output && true)) Mend
    (bytes_eq input output) segments mending_symbols 0 (output ∷ []) input held
mend_read words input output held is = grind arith

pub dvb_code_read : (words : List (List ℕ)) (input output : List ℕ) (held : Files)
    → words ≡ codes "dvb" ∷ codes "code" ∷ input ∷ output ∷ []
    → IsRead words (is_name input && (is_name output && true)) DvbCode
    (bytes_eq input output) dvb_packets dvb_coding 0 (output ∷ []) input held
dvb_code_read words input output held is = grind arith

pub dvb_read_read : (words : List (List ℕ)) (input output : List ℕ) (held : Files)
    → words ≡ codes "dvb" ∷ codes "read" ∷ input ∷ output ∷ []
    → IsRead words (is_name input && (is_name output && true)) DvbRead
    (bytes_eq input output) blocks dvb_reading 0 (output ∷ []) input held
dvb_read_read words input output held is = grind arith

-- where the names are not empty and different, the words fit and no two names are equal
pub named : (name : List ℕ) → name ≢ [] → is_name name ≡ true
named [] some = absurd (some refl)
named (b ∷ name) some = ap not (ne_eqb (length (b ∷ name)) 0 (λ e. omega (arith, e)))

pub both_named : (input output : List ℕ) → input ≢ [] → output ≢ [] → (is_name input && (is_name output && true)) ≡ true
both_named input output some other = and_from _ _ (named input some) (and_from _ _ (named output other) refl)

pub all_named : (first second third : List ℕ) → first ≢ [] → second ≢ [] → third ≢ []
    → (is_name first && (is_name second && (is_name third && true))) ≡ true
all_named first second third a b c = and_from _ _ (named first a) (both_named second third b c)

pub unlike : (input output : List ℕ) → input ≢ output → bytes_eq input output ≡ false
unlike input output apart = grind (arith, bytes_eq-Decides)

-- of three names that are different none is repeated
pub three_apart : (first second third : List ℕ) → first ≢ second → first ≢ third → second ≢ third
    → is_some (repeated (first ∷ second ∷ third ∷ [])) ≡ false
three_apart first second third a b c = grind (arith, unlike)

-- ---- words with numbers

own : IsNumeralModel (AllDigits 10) (digits_value 10)
own = numerals_by_value (AllDigits 10) tells_digits

-- the decimal spelling of a number is read as that number
spelled : (most n : ℕ) → most < 2 ^ 64 → n ≤ most → number_in most (decimal n) ≡ Some n
unfolding number_in
spelled most n small le = grind (arith, digits_value-decimal, own, cond-true, and_from, bytes_eq-Decides, le-leb)

-- so is that of a number from 1 on
spelled_within : (most n : ℕ) → most < 2 ^ 64 → 0 < n → n ≤ most → number_within 1 most (decimal n) ≡ Some n
spelled_within most n small some le = grind (arith, spelled, cond-true, le-leb)

spelled_scale : (scale : ℕ) → 0 < scale → scale ≤ 18 → number_within 1 18 (decimal scale) ≡ Some scale
spelled_scale scale some most = spelled_within 18 scale (omega arith) some most

spelled_rounds : (rounds : ℕ) → 0 < rounds → rounds ≤ 32 → number_within 1 32 (decimal rounds) ≡ Some rounds
spelled_rounds rounds some most = spelled_within 32 rounds (omega arith) some most

pub acquire_read : (words : List (List ℕ)) (scale : ℕ) (input output : List ℕ) (held : Files)
    → words ≡ codes "acquire" ∷ decimal scale ∷ input ∷ output ∷ [] → 0 < scale → scale ≤ 18
    → IsRead words (is_some (number_within 1 18 (decimal scale)) && (is_name input && (is_name output && true))) Acquire
    (bytes_eq input output) single_bytes (acquiring scale) 0 (output ∷ []) input held
acquire_read words scale input output held is some most = grind (arith, spelled_scale)

pub refine_read : (words : List (List ℕ)) (scale rounds : ℕ) (input output : List ℕ) (held : Files)
    → words ≡ codes "refine" ∷ decimal scale ∷ decimal rounds ∷ input ∷ output ∷ [] → 0 < scale → scale ≤ 18
    → 0 < rounds → rounds ≤ 32 → IsRead words (is_some (number_within 1 18 (decimal scale))
    && (is_some (number_within 1 32 (decimal rounds)) && (is_name input && (is_name output && true)))) Refine
    (bytes_eq input output) single_bytes (refining scale rounds) 0 (output ∷ []) input held
refine_read words scale rounds input output held is some most one many = grind (arith, spelled_scale, spelled_rounds)

pub excite_read : (words : List (List ℕ)) (address delay : ℕ) (input output log : List ℕ) (held : Files)
    → words ≡ codes "excite" ∷ input ∷ decimal address ∷ decimal delay ∷ output ∷ log ∷ []
    → address ≤ 65535 → delay ≤ 4294967295 → IsRead words (is_name input && (is_some (number_in 65535 (decimal address))
    && (is_some (number_in 4294967295 (decimal delay)) && (is_name output && (is_name log && true))))) Excite
    (is_some (repeated (input ∷ output ∷ log ∷ []))) coded_packets (exciting address delay) 0 (output ∷ log ∷ []) input
    held
excite_read words address delay input output log held is small_address small_delay = grind (arith, spelled)

pub excite_named : (address delay : ℕ) (input output log : List ℕ) → address ≤ 65535 → delay ≤ 4294967295
    → input ≢ [] → output ≢ [] → log ≢ [] → (is_name input && (is_some (number_in 65535 (decimal address))
    && (is_some (number_in 4294967295 (decimal delay)) && (is_name output && (is_name log && true))))) ≡ true
excite_named address delay input output log small_address small_delay in_named out_named log_named =
    grind (arith, and_from, named, spelled, both_named)

pub acquire_named : (scale : ℕ) (input output : List ℕ) → 0 < scale → scale ≤ 18 → input ≢ [] → output ≢ []
    → (is_some (number_within 1 18 (decimal scale)) && (is_name input && (is_name output && true))) ≡ true
acquire_named scale input output some most in_named out_named = grind (arith, and_from, spelled_scale, both_named)

pub refine_named : (scale rounds : ℕ) (input output : List ℕ) → 0 < scale → scale ≤ 18 → 0 < rounds → rounds ≤ 32
    → input ≢ [] → output ≢ [] → (is_some (number_within 1 18 (decimal scale))
    && (is_some (number_within 1 32 (decimal rounds)) && (is_name input && (is_name output && true)))) ≡ true
refine_named scale rounds input output some most one many in_named out_named =
    grind (arith, and_from, spelled_scale, spelled_rounds, both_named)

pub adapt_read : (words : List (List ℕ)) (plan input output bytes : List ℕ) (said : Plan) (held : Files)
    → words ≡ codes "adapt" ∷ plan ∷ input ∷ output ∷ [] → get held plan ≡ Some bytes → plan_of bytes ≡ Ok said
    → IsRead words (is_name plan && (is_name input && (is_name output && true))) Adapt
    (is_some (repeated (plan ∷ input ∷ output ∷ []))) packets (feeding said) 1 (output ∷ []) input held
adapt_read words plan input output bytes said held is there says = grind arith
