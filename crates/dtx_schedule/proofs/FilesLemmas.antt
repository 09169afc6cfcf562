-- The files of transmitters as outputs: what each holds, the two of one transmitter written anew, and both before any
-- step.
use Rattle.std.proofs.Common.{◌≡◌, ◌≢◌, ℕ, zero, suc, ◌<◌, ◌^◌, List, [], ◌∷◌, refl, sym, ap, subst, ◌∙◌, inl, inr}
use Rattle.std.proofs.Common.{arith}
use Rattle.std.specs.Prelude.{Some, slice_get}
use Rattle.std.specs.FinMap.{get, insert}
use Rattle.std.proofs.lemmas.Bool.{cases_eq}
use Rattle.std.proofs.lemmas.Option.{same_Some}
use Rattle.dtx_outside.proofs.FilesLemmas.{get-insert_same, get-insert_other, insert-insert, insert_swap}
use Rattle.dtx_outside.specs.Shelf.{Files, with_file}
use Rattle.dtx_exciter.specs.Emission.{emission}
use Rattle.dtx_exciter.specs.Log.{life_lines, log}
use Rattle.dtx_files.specs.Symbols.{segment_bytes}
use Rattle.dtx_meaning.specs.Meaning.{Outputs, IsNoOutput, with_outputs}
use Rattle.dtx_net.specs.Lives.{lives_of, lines_of, sent_segments}
use Rattle.dtx_net.proofs.PlaceOfLemmas.{place_only}
use Rattle.dtx_plan.specs.Sound.{AreTransmitters}
use Rattle.dtx_plan.specs.declared.transmitter.Transmitter.{Transmitter}
use Rattle.dtx_words.specs.Names.{symbol_name, log_name}
use Rattle.dtx_words.proofs.NetworkNamesLemmas.{symbols_differ, logs_differ, symbols_no_logs}
use Rattle.dtx_schedule.specs.Playout.{HasPair, with_pair}
use Rattle.dtx_schedule.specs.TransmitterFiles.{Contents, files_of, log_file, symbol_file}

-- ---- outputs over files that are told

abbrev pub files_with : Outputs → Files → Files
files_with [] held = held
files_with (o ∷ rest) held = files_with rest (with_file o.0 o.1 held)

pub with_outputs-told : (outputs : Outputs) (held : Files)
    → with_outputs outputs (Some held) ≡ Some (files_with outputs held)
with_outputs-told [] held = refl
with_outputs-told (o ∷ rest) held = with_outputs-told rest (with_file o.0 o.1 held)

-- a file that is none of them
pub get_past : (outputs : Outputs) (name : List ℕ) (held : Files) → IsNoOutput name outputs
    → get (files_with outputs held) name ≡ get held name
get_past [] name held apart = refl
get_past (o ∷ rest) name held apart =
    get_past rest name (with_file o.0 o.1 held) apart.1 ∙ get-insert_other held o.0 o.1 name apart.0

insert_past : (outputs : Outputs) (name bytes : List ℕ) (held : Files) → IsNoOutput name outputs
    → insert (files_with outputs held) name bytes ≡ files_with outputs (insert held name bytes)
insert_past [] name bytes held apart = refl
insert_past (o ∷ rest) name bytes held apart = insert_past rest name bytes (with_file o.0 o.1 held) apart.1
    ∙ ap (files_with rest) (insert_swap held o.0 name o.1 bytes (λ same. apart.0 (sym same)))

-- ---- names

-- addresses of 16 bits, which differ from each other
pub record AreApart (ts : List Transmitter) : Type 0 where
  pub differ : (who other : ℕ) (t u : Transmitter) → slice_get ts who ≡ Some t → slice_get ts other ≡ Some u
      → other ≢ who
      → t.address ≢ u.address
  pub small : (who : ℕ) (t : Transmitter) → slice_get ts who ≡ Some t → t.address < 2 ^ 16

-- those of a plan
pub apart_of : (ts : List Transmitter) → AreTransmitters ts
    → ((who : ℕ) (t : Transmitter) → slice_get ts who ≡ Some t → t.address < 2 ^ 16) → AreApart ts
apart_of ts are small = record {
  differ = λ who other t u at_t at_u n same.
      n (same_Some other who (rw (← place_only ts other u are at_u, ← same, place_only ts who t are at_t)));
  small = small;
}

not_suc : (who other : ℕ) → other ≢ who → suc other ≢ suc who
not_suc who other n same = n (omega (arith, same))

apart_behind : (t : Transmitter) (ts : List Transmitter) → AreApart (t ∷ ts) → AreApart ts
apart_behind t ts apart = record {
  differ = λ who other u v at_u at_v n. apart.differ (suc who) (suc other) u v at_u at_v (not_suc who other n);
  small = λ who u at_u. apart.small (suc who) u at_u;
}

-- an address that none of these has
abbrev IsOther : ℕ → List Transmitter → Type 0
IsOther address ts = (who : ℕ) (u : Transmitter) → slice_get ts who ≡ Some u
    → (u.address < 2 ^ 16) × (address ≢ u.address)

no_symbols : (ts : List Transmitter) (contents : Contents) (address : ℕ) → address < 2 ^ 16 → IsOther address ts
    → IsNoOutput (symbol_name address) (files_of contents ts)
no_symbols [] contents address small other = tt
no_symbols (u ∷ ts) contents address small other = (
  λ same. (other 0 u refl).1 (symbols_differ address u.address small (other 0 u refl).0 same),
  (
    symbols_no_logs address u.address,
    no_symbols ts (λ who. contents (suc who)) address small (λ who v at_v. other (suc who) v at_v),
  ),
)

no_logs : (ts : List Transmitter) (contents : Contents) (address : ℕ) → address < 2 ^ 16 → IsOther address ts
    → IsNoOutput (log_name address) (files_of contents ts)
no_logs [] contents address small other = tt
no_logs (u ∷ ts) contents address small other = (
  λ same. symbols_no_logs u.address address (sym same),
  (
    λ same. (other 0 u refl).1 (logs_differ address u.address small (other 0 u refl).0 same),
    no_logs ts (λ who. contents (suc who)) address small (λ who v at_v. other (suc who) v at_v),
  ),
)

others_behind : (t : Transmitter) (ts : List Transmitter) → AreApart (t ∷ ts) → IsOther t.address ts
others_behind t ts apart = λ who u at_u.
    (apart.small (suc who) u at_u, apart.differ 0 (suc who) t u refl at_u (λ same. omega (arith, same)))

-- ---- the two files of one transmitter

-- the contents with this as those at a place
abbrev pub put : Contents → ℕ → List ℕ × List ℕ → ℕ → Transmitter → List ℕ × List ℕ
put contents zero pair zero t = pair
put contents zero pair (suc other) t = contents (suc other) t
put contents (suc who) pair zero t = contents zero t
put contents (suc who) pair (suc other) t = put (λ k. contents (suc k)) who pair other t

put_here : (contents : Contents) (who : ℕ) (pair : List ℕ × List ℕ) (t : Transmitter)
    → put contents who pair who t ≡ pair
put_here contents zero pair t = refl
put_here contents (suc who) pair t = put_here (λ k. contents (suc k)) who pair t

put_elsewhere : (contents : Contents) (who other : ℕ) (pair : List ℕ × List ℕ) (t : Transmitter) → other ≢ who
    → put contents who pair other t ≡ contents other t
put_elsewhere contents zero zero pair t n = absurd (n refl)
put_elsewhere contents zero (suc other) pair t n = refl
put_elsewhere contents (suc who) zero pair t n = refl
put_elsewhere contents (suc who) (suc other) pair t n =
    put_elsewhere (λ k. contents (suc k)) who other pair t (λ same. n (ap suc same))

-- what holds of what was put there, and elsewhere of what stood there
pub at_places : (P : ℕ → Transmitter → List ℕ × List ℕ
    → Type 0) (ts : List Transmitter) (contents : Contents) (who : ℕ) (t : Transmitter)
    (pair : List ℕ × List ℕ) → slice_get ts who ≡ Some t → P who t pair
    → ((other : ℕ) (u : Transmitter) → slice_get ts other ≡ Some u → other ≢ who → P other u (contents other u))
    → (other : ℕ) (u : Transmitter) → slice_get ts other ≡ Some u → P other u (put contents who pair other u)
at_places P ts contents who t pair at_t here elsewhere other u at_u = elim (cases_eq other who) [
  | inl same ↦
      let is : t ≡ u = same_Some t u (sym at_t ∙ ap (slice_get ts) (sym same) ∙ at_u) in
      subst (λ i. P i u (put contents who pair i u)) (sym same)
      (subst (λ (x : Transmitter). P who x (put contents who pair who x)) is
      (subst (P who t) (sym (put_here contents who pair t)) here))
  | inr n ↦ subst (P other u) (sym (put_elsewhere contents who other pair u n)) (elsewhere other u at_u n)
]

pair_anew : (held : Files) (address : ℕ) (symbols log a b : List ℕ)
    → with_pair address symbols log (with_pair address a b held) ≡ with_pair address symbols log held
pair_anew held address symbols log a b = grind (arith, insert_swap, symbols_no_logs, insert-insert)

pair_at_head : (u : Transmitter) (ts : List Transmitter) (contents : Contents) (symbols log : List ℕ) (held : Files)
    → AreApart (u ∷ ts) → with_pair u.address symbols log (files_with (files_of contents (u ∷ ts)) held)
    ≡ files_with (files_of (put contents zero (symbols, log)) (u ∷ ts)) held
pair_at_head u ts contents symbols log held apart =
    let S : List ℕ = symbol_name u.address in
    let L : List ℕ = log_name u.address in
    let rest : Outputs = files_of (λ who. contents (suc who)) ts in
    let other = others_behind u ts apart in
    let small = apart.small 0 u refl in
    let own : Files = with_pair u.address (contents 0 u).0 (contents 0 u).1 held in
    ap (λ (m : Files). insert m L log) (insert_past rest S symbols own
    (no_symbols ts (λ who. contents (suc who)) u.address small other))
    ∙ insert_past rest L log (insert own S symbols) (no_logs ts (λ who. contents (suc who)) u.address small other)
    ∙ ap (files_with rest) (pair_anew held u.address symbols log (contents 0 u).0 (contents 0 u).1)

pub set_pair : (ts : List Transmitter) (who : ℕ) (t : Transmitter) (contents : Contents) (symbols log : List ℕ)
    (held : Files) → AreApart ts → slice_get ts who ≡ Some t
    → with_pair t.address symbols log (files_with (files_of contents ts) held)
    ≡ files_with (files_of (put contents who (symbols, log)) ts) held
set_pair [] who t contents symbols log held apart at_t = cc
set_pair (u ∷ ts) zero t contents symbols log held apart at_t = grind (arith, same_Some, pair_at_head)
set_pair (u ∷ ts) (suc who) t contents symbols log held apart at_t =
    set_pair ts who t (λ k. contents (suc k)) symbols log (with_pair u.address (contents 0 u).0 (contents 0 u).1 held)
    (apart_behind u ts apart) at_t

pair_of_head : (u : Transmitter) (ts : List Transmitter) (contents : Contents) (held : Files) → AreApart (u ∷ ts)
    → HasPair u.address (contents 0 u).0 (contents 0 u).1 (files_with (files_of contents (u ∷ ts)) held)
pair_of_head u ts contents held apart =
    let L : List ℕ = log_name u.address in
    let rest : Outputs = files_of (λ who. contents (suc who)) ts in
    let other = others_behind u ts apart in
    let small = apart.small 0 u refl in
    let first : Files = insert held (symbol_name u.address) (contents 0 u).0 in
    let own : Files = insert first L (contents 0 u).1 in
    record {
      sent = get_past rest (symbol_name u.address) own (no_symbols ts (λ who. contents (suc who)) u.address small other)
          ∙ get-insert_other first L (contents 0 u).1 (symbol_name u.address) (symbols_no_logs u.address u.address)
          ∙ get-insert_same held (symbol_name u.address) (contents 0 u).0;
      logged = get_past rest L own (no_logs ts (λ who. contents (suc who)) u.address small other)
          ∙ get-insert_same first L (contents 0 u).1;
    }

pub has_pair : (ts : List Transmitter) (who : ℕ) (t : Transmitter) (contents : Contents) (held : Files) → AreApart ts
    → slice_get ts who ≡ Some t
    → HasPair t.address (contents who t).0 (contents who t).1 (files_with (files_of contents ts) held)
has_pair [] who t contents held apart at_t = cc
has_pair (u ∷ ts) zero t contents held apart at_t =
    subst (λ (x : Transmitter). HasPair x.address (contents 0 x).0 (contents 0 x).1
    (files_with (files_of contents (u ∷ ts)) held)) (same_Some u t at_t) (pair_of_head u ts contents held apart)
has_pair (u ∷ ts) (suc who) t contents held apart at_t =
    has_pair ts who t (λ k. contents (suc k)) (with_pair u.address (contents 0 u).0 (contents 0 u).1 held)
    (apart_behind u ts apart) at_t

-- the same files where each holds the same
pub contents_same : (ts : List Transmitter) (f g : Contents)
    → ((who : ℕ) (t : Transmitter) → slice_get ts who ≡ Some t → f who t ≡ g who t) → files_of f ts ≡ files_of g ts
contents_same [] f g same = refl
contents_same (u ∷ ts) f g same =
    rw (same 0 u refl, contents_same ts (λ who. f (suc who)) (λ who. g (suc who)) (λ who t at_t. same (suc who) t at_t))

-- ---- before any step

pub no_segments : (t : Transmitter) (who : ℕ) → sent_segments t who [] ≡ []
unfolding sent_segments lives_of emission
no_segments t who = refl

pub no_symbol_file : (t : Transmitter) (who : ℕ) → symbol_file t who [] ≡ []
unfolding symbol_file
no_symbol_file t who = ap segment_bytes (no_segments t who)

pub no_log_file : (t : Transmitter) (who : ℕ) → log_file t who [] ≡ []
unfolding log_file lines_of lives_of log life_lines
no_log_file t who = refl
