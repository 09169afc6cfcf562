use Rattle.std.proofs.Common.{◌≡◌, ℕ, ◌+◌, ◌-◌, ◌*◌, ◌<◌, ◌≤◌, [], List, Bor, get_or, drop, length, map, ap, sym, ◌∙◌}
use Rattle.std.proofs.Common.{arith}
use Rattle.std.proofs.lemmas.List.{get_or-map, length-drop, length-take-le}
use Rattle.dtx_laws.proofs.CompletedLemmas.{fronts_more}
use Rattle.dtx_laws.specs.Whitening.{whitened}
use Rattle.dtx_laws.proofs.WhiteningLemmas.{length-whitened}
use Rattle.dtx_lists.proofs.Written.{length-put_mid}
use Rattle.dtx_outer.specs.Outer.{Held}
use Rattle.dtx_outer.proofs.Coding.{front_within, white_within, place_small}
use Rattle.dtx_outer.proofs.outer.Outer.begin_four.Goals as goal

pub overflow_add-from : goal.overflow_add-from
overflow_add-from g c =
    let small : c.args.place + c.loop-p.p ≤ g.W.Whitener.PERIOD =
    place_small g.row.K c.args.place g.W.Whitener.PERIOD c.loop-p.p (omega (arith, c.requires.code.some))
    c.requires.within c.loop-p-test.true in
    omega (arith, small, g.met.W.Whitener.fits)

-- the word begins within the words
pub overflow_mul-at : goal.overflow_mul-at
overflow_mul-at g c =
    let whole : g.row.N * c.loop-p.p + g.row.K ≤ length c.loop-p.words =
    front_within g.row.N g.row.K c.loop-p.p (length c.loop-p.words) (omega (arith, c.requires.code.longer))
    c.loop-p-test.true c.loop-p.invariant.long in
    omega (arith, whole, c.loop-p.invariant.long, c.requires.code.short)

pub overflow_add-at : goal.overflow_add-at
overflow_add-at g c =
    let whole : g.row.N * c.loop-p.p + g.row.K ≤ length c.loop-p.words =
    front_within g.row.N g.row.K c.loop-p.p (length c.loop-p.words) (omega (arith, c.requires.code.longer))
    c.loop-p-test.true c.loop-p.invariant.long in
    omega (arith, whole, c.loop-p.invariant.long, c.requires.code.short)

pub slice_bounds-whiten_to-end : goal.slice_bounds-whiten_to-end
slice_bounds-whiten_to-end g c =
    front_within g.row.N g.row.K c.loop-p.p (length c.loop-p.words) (omega (arith, c.requires.code.longer))
    c.loop-p-test.true c.loop-p.invariant.long

pub whiten_to-requires-clause-room : goal.whiten_to-requires-clause-room
whiten_to-requires-clause-room g c =
    let whole : g.row.N * c.loop-p.p + g.row.K ≤ length c.loop-p.words =
    front_within g.row.N g.row.K c.loop-p.p (length c.loop-p.words) (omega (arith, c.requires.code.longer))
    c.loop-p-test.true c.loop-p.invariant.long in
    length-take-le (g.row.N * c.loop-p.p + g.row.K - g.row.N * c.loop-p.p) (drop (g.row.N * c.loop-p.p) c.loop-p.words)
    (omega (arith, length-drop (g.row.N * c.loop-p.p) c.loop-p.words, whole)) ∙ omega arith

pub overflow_mul-from : goal.overflow_mul-from
overflow_mul-from g c =
    let within : g.row.K * (c.args.place + c.loop-p.p) + g.row.K ≤ g.W.Whitener.PERIOD =
    white_within g.row.K c.args.place g.W.Whitener.PERIOD c.loop-p.p c.requires.within c.loop-p-test.true in
    omega (arith, within, g.met.W.Whitener.fits)

pub loop-p-init : goal.loop-p-init
loop-p-init g c =
    record { done = λ p l. absurd (omega (arith, l)); long = c.requires.room }

pub returns : goal.returns
returns g c =
    λ p l. c.loop-p.invariant.done p (omega (arith, l, c.loop-p-test.false))

-- the data of packet p
head_at : (heads : List (Bor (List ℕ))) (p : ℕ) → length heads ≡ 4 → p < 4
    → get_or (map (λ head. head.now) heads) p [] ≡ (get_or heads p (record { ref_ptr = (0, 0); now = [] })).now
head_at heads p four l =
    get_or-map (λ (head : Bor (List ℕ)). head.now) heads p (record { ref_ptr = (0, 0); now = [] }) []
    (omega (arith, four, l))

pub whiten_to-requires-clause-long : goal.whiten_to-requires-clause-long
whiten_to-requires-clause-long g c =
    ap length (sym (head_at c.args.heads.now c.loop-p.p c.told-heads c.loop-p-test.true))
    ∙ c.requires.long c.loop-p.p c.loop-p-test.true

pub whiten_to-requires-clause-within : goal.whiten_to-requires-clause-within
whiten_to-requires-clause-within g c =
    white_within g.row.K c.args.place g.W.Whitener.PERIOD c.loop-p.p c.requires.within c.loop-p-test.true

pub loop-p-preserved : goal.loop-p-preserved
loop-p-preserved g c =
    let n : ℕ = g.row.N in
    let k : ℕ = g.row.K in
    let p : ℕ = c.loop-p.p in
    let heads : List (List ℕ) = map (λ (head : Bor (List ℕ)). head.now) c.args.heads.now in
    let l : p < 4 = c.loop-p-test.true in
    let code = c.requires.code in
    let inv = c.loop-p.invariant in
    let whole : n * p + k ≤ length c.loop-p.words =
    front_within n k p (length c.loop-p.words) (omega (arith, code.longer)) l inv.long in
    let here : c.whiten_to.new.out ≡ whitened c.args.self.now.white (k * (c.args.place + p)) (get_or heads p []) =
    c.whiten_to.ensures
    ∙ ap (λ (d : Held). whitened d.white (k * (c.args.place + p))
    (get_or c.args.heads.now p (record { ref_ptr = (0, 0); now = [] })).now) c.self.view_is
    ∙ ap (whitened c.args.self.now.white (k * (c.args.place + p))) (sym (head_at c.args.heads.now p c.told-heads l)) in
    let long : length c.whiten_to.new.out ≡ k =
    ap length here ∙ length-whitened c.args.self.now.white (get_or heads p []) (k * (c.args.place + p))
    ∙ c.requires.long p l in
    record {
      done = fronts_more n k p (n * p + k - n * p) c.loop-p.words c.whiten_to.new.out
          (λ q. whitened c.args.self.now.white (k * (c.args.place + q)) (get_or heads q []))
          (omega (arith, code.longer)) (omega (arith, whole)) long inv.done here;
      long = length-put_mid (n * p) (n * p + k - n * p) c.loop-p.words c.whiten_to.new.out (omega (arith, whole))
          (omega (arith, long)) ∙ inv.long;
    }
