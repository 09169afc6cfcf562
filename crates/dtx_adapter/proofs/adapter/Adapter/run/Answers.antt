use Rattle.std.proofs.Common.{◌≡◌, ℕ, ◌+◌, ◌-◌, ◌*◌, ◌/◌, ◌%◌, List, ◌++◌, length, take, drop, sym, ap, subst, ◌∙◌}
use Rattle.std.proofs.Common.{arith, length-append, take_all}
use Rattle.std.proofs.Math.Seq.{take-append-add}
use Rattle.dtx_coder.specs.Groups as coder
use Rattle.dtx_coder.specs.Groups.{Coding, stream_coding}
use Rattle.dtx_coder.specs.Stream.{states}
use Rattle.dtx_plan.specs.declared.plan.Plan.{Plan}
use Rattle.dtx_adapter.specs.Adapting.{StandsFor}
use Rattle.dtx_adapter.specs.Filling.{Filling, Fills}
use Rattle.dtx_adapter.specs.Feed.{feed}
use Rattle.dtx_adapter.specs.declared.adapter.Adapter.{Adapter}
use Rattle.dtx_adapter.proofs.FeedsLemmas.{length-feed, feed_parts}
use Rattle.dtx_adapter.proofs.adapter.Adapter.run.Goals as goal

-- where only whole groups were given, the coder was given the whole feed
given_whole : (plan : Plan) (adapter : Adapter) (stream : List (List ℕ)) → StandsFor plan adapter stream
    → adapter.given % 4 ≡ 0 → coder.StandsFor adapter.coder (feed plan stream)
given_whole plan adapter stream stands complete =
    let at = stands.given in
    subst (coder.StandsFor adapter.coder) (take_all (4 * (length stream / 4)) (feed plan stream)
    (omega (arith, at, complete, length-feed plan stream))) stands.coder

held : (coding : Coding) (fed : List (List ℕ)) → coder.StandsFor coding fed → coding.states ≡ states fed
unfolding stream_coding
held coding fed stands = ap (λ (k : Coding). k.states) stands

-- the whole groups of a feed to which packets were added
groups_of : (plan : Plan) (stream longer made : List (List ℕ)) → length stream % 4 ≡ 0
    → length longer ≡ length stream + length made → feed plan stream ++ made ≡ feed plan longer
    → feed plan stream ++ take (length made - length made % 4) made
    ≡ take (4 * (length longer / 4)) (feed plan longer)
groups_of plan stream longer made whole long all =
    let n : 4 * (length longer / 4) ≡ length (feed plan stream) + (length made - length made % 4) =
    omega (arith, whole, long, length-feed plan stream) in
    sym (ap (λ k. take k (feed plan longer)) n
    ∙ ap (take (length (feed plan stream) + (length made - length made % 4))) (sym all)
    ∙ take-append-add (feed plan stream) made (length made - length made % 4))

pub returns-clause-fed : goal.returns-clause-fed
returns-clause-fed c = λ plan stream stands.
    c.make_run-filled.ensures.fed plan stream stands.fills (sym stands.given) c.requires.open
    (c.states-told.ensures.states
    ∙ held c.args.self.now.coder (feed plan stream)
    (given_whole plan c.args.self.now stream stands c.requires.open))

pub returns-clause-stands : goal.returns-clause-stands
returns-clause-stands c = λ plan stream stands.
    let old = c.args.packets.now in
    let made = c.make_run-filled.new.packets in
    let longer : List (List ℕ) = stream ++ old in
    let complete = c.requires.open in
    let at = stands.given in
    let whole = given_whole plan c.args.self.now stream stands complete in
    let fed : made ≡ drop (length stream) (feed plan longer) =
    c.make_run-filled.ensures.fed plan stream stands.fills (sym at) complete (c.states-told.ensures.states
    ∙ held c.args.self.now.coder (feed plan stream) whole) in
    let all : feed plan stream ++ made ≡ feed plan longer =
    ap (λ back. feed plan stream ++ back) fed ∙ sym (feed_parts plan stream old) in
    let long : length longer ≡ length stream + length made =
    length-append stream old ∙ ap (λ n. length stream + n) (sym c.make_run-filled.auto.packets) in
    record {
      fills = subst (λ (f : Filling). Fills plan f longer ((length longer - 1) / 4)) (sym c.code.ensures.filler)
          (c.make_run-filled.ensures.fills plan stream stands.fills (sym at) complete);
      given = ap (λ n. n + length made) (c.code.ensures.given ∙ at) ∙ sym long;
      coder = subst (coder.StandsFor c.code.new.self.coder)
          (groups_of plan stream longer made (omega (arith, at, complete)) long all)
          (c.code.ensures.coder (feed plan stream) (length-feed plan stream ∙ sym at) whole);
    }
