-- The files of a network that is done, from its outputs.
use Rattle.std.proofs.Common.{◌≡◌, ◌≢◌, ℕ, suc, List, [], ◌∷◌, ◌++◌, get_or, refl, sym, ap, subst, ◌∙◌, arith}
use Rattle.std.specs.Prelude.{Option, Some, None, IfSome}
use Rattle.std.specs.FinMap.{get}
use Rattle.std.specs.List.{Contains}
use Rattle.std.proofs.lemmas.List.Elements.{Contains-append_left, Contains-append_right}
use Rattle.dtx_recipes.specs.Adapt.{feed_bytes}
use Rattle.dtx_meaning.specs.Meaning.{Outputs, IsNoOutput}
use Rattle.dtx_net.specs.Steps.{Step}
use Rattle.dtx_network.specs.Network.{steps_under}
use Rattle.dtx_outside.proofs.FilesLemmas.{get-insert_same}
use Rattle.dtx_outside.specs.Shelf.{Files, with_file}
use Rattle.dtx_plan.specs.declared.plan.NetPlan.{NetPlan}
use Rattle.dtx_plan.specs.declared.plan.Plan.{Plan}
use Rattle.dtx_plan.specs.declared.plan.ReceivePlan.{ReceivePlan}
use Rattle.dtx_plan.specs.declared.transmitter.Transmitter.{Transmitter}
use Rattle.dtx_schedule.proofs.FilesLemmas.{AreApart, files_with, get_past, has_pair}
use Rattle.dtx_schedule.specs.TransmitterFiles.{Contents, files_of, played, played_outputs, transmitter_names}
use Rattle.dtx_words.specs.Names.{feed_name, log_name, received_name, symbol_name}
use Rattle.dtx_top.specs.Networks.{AreNetworkFiles, received_names, written_names}

-- ---- names

pub letter : (name other : List ℕ) (k a b : ℕ) → get_or name k 0 ≡ a → get_or other k 0 ≡ b → a ≢ b → name ≢ other
letter name other k a b at_name at_other n same = n (sym at_name ∙ ap (λ (x : List ℕ). get_or x k 0) same ∙ at_other)

pub feed_no_symbols : (address : ℕ) → feed_name ≢ symbol_name address
feed_no_symbols address = letter feed_name (symbol_name address) 0 110 116 refl refl (λ e. omega (arith, e))

pub feed_no_log : (address : ℕ) → feed_name ≢ log_name address
feed_no_log address = letter feed_name (log_name address) 0 110 116 refl refl (λ e. omega (arith, e))

pub symbols_not_received : (address : ℕ) → symbol_name address ≢ received_name
symbols_not_received address = letter (symbol_name address) received_name 0 116 110 refl refl (λ e. omega (arith, e))

pub log_not_received : (address : ℕ) → log_name address ≢ received_name
log_not_received address = letter (log_name address) received_name 0 116 110 refl refl (λ e. omega (arith, e))

feed_not_received : feed_name ≢ received_name
feed_not_received = letter feed_name received_name 4 102 116 refl refl (λ e. omega (arith, e))

-- ---- outputs one behind the other

no_output-append : (a b : Outputs) (name : List ℕ) → IsNoOutput name a → IsNoOutput name b → IsNoOutput name (a ++ b)
no_output-append [] b name first second = second
no_output-append (o ∷ a) b name first second = (first.0, no_output-append a b name first.1 second)

pub files_with-append : (a b : Outputs) (held : Files) → files_with (a ++ b) held ≡ files_with b (files_with a held)
files_with-append [] b held = refl
files_with-append (o ∷ a) b held = files_with-append a b (with_file o.0 o.1 held)

-- what is received, where a receiver is asked for
abbrev pub received_outputs : Option ReceivePlan → (ReceivePlan → List ℕ) → Outputs
received_outputs None made = []
received_outputs (Some receiver) made = (received_name, made receiver) ∷ []

abbrev pub network_outputs : Plan → NetPlan → List (List ℕ) → (ReceivePlan → List ℕ) → Outputs
network_outputs plan network stream made = (feed_name, feed_bytes plan stream)
    ∷ (played_outputs plan.transmitters (steps_under plan stream network.events)
    ++ received_outputs network.receive made)

-- ---- names that are none of them

no_own : (ts : List Transmitter) (contents : Contents) (name : List ℕ) → ((address : ℕ) → name ≢ symbol_name address)
    → ((address : ℕ) → name ≢ log_name address) → IsNoOutput name (files_of contents ts)
no_own [] contents name symbols logs = tt
no_own (t ∷ ts) contents name symbols logs =
    (symbols t.address, (logs t.address, no_own ts (λ who. contents (suc who)) name symbols logs))

not_named : (ts : List Transmitter) (contents : Contents) (name : List ℕ) → ¬ Contains (transmitter_names ts) name
    → IsNoOutput name (files_of contents ts)
not_named [] contents name out = tt
not_named (t ∷ ts) contents name out = (
  λ same. out (0, omega arith, sym same),
  (
    λ same. out (1, omega arith, sym same),
    not_named ts (λ who. contents (suc who)) name (λ has. out (
      suc (suc has.0),
      let w = has.1 in
          omega (arith, w),
      has.2,
    )),
  ),
)

no_received : (receive : Option ReceivePlan) (made : ReceivePlan → List ℕ) (name : List ℕ) → name ≢ received_name
    → IsNoOutput name (received_outputs receive made)
no_received None made name n = tt
no_received (Some receiver) made name n = (n, tt)

not_received : (receive : Option ReceivePlan) (made : ReceivePlan → List ℕ) (name : List ℕ)
    → ¬ Contains (received_names receive) name → IsNoOutput name (received_outputs receive made)
not_received None made name out = tt
not_received (Some receiver) made name out = (λ same. out (0, omega arith, sym same), tt)

got : (receive : Option ReceivePlan) (made : ReceivePlan → List ℕ) (held : Files)
    → IfSome receive (λ receiver. get (files_with (received_outputs receive made) held) received_name
    ≡ Some (made receiver))
got None made held = tt
got (Some receiver) made held = get-insert_same held received_name (made receiver)

-- ---- all files

pub network_files : (plan : Plan) (network : NetPlan) (stream : List (List ℕ)) (made : ReceivePlan
    → List ℕ) (held now : Files)
    → AreApart plan.transmitters → now ≡ files_with (network_outputs plan network stream made) held
    → AreNetworkFiles plan network stream made held now
network_files plan network stream made held now apart is =
    let ts : List Transmitter = plan.transmitters in
    let steps : List Step = steps_under plan stream network.events in
    let sent : Outputs = played_outputs ts steps in
    let rest : Outputs = received_outputs network.receive made in
    let first : Files = with_file feed_name (feed_bytes plan stream) held in
    let mid : Files = files_with sent first in
    let split : now ≡ files_with rest mid = is ∙ files_with-append sent rest first in
    record {
      feed = ap (λ (f : Files). get f feed_name) split
          ∙ get_past rest feed_name mid (no_received network.receive made feed_name feed_not_received)
          ∙ get_past sent feed_name first (no_own ts (played steps) feed_name feed_no_symbols feed_no_log)
          ∙ get-insert_same held feed_name (feed_bytes plan stream);
      sent = record {
        symbols = λ who t at_t. grind (arith, get_past, no_received, symbols_not_received, has_pair);
        logs = λ who t at_t. ap (λ (f : Files). get f (log_name t.address)) split
            ∙ get_past rest (log_name t.address) mid
            (no_received network.receive made (log_name t.address) (log_not_received t.address))
            ∙ (has_pair ts who t (played steps) first apart at_t).logged;
      };
      received = subst (λ (f : Files). IfSome network.receive (λ receiver. get f received_name ≡ Some (made receiver)))
          (sym split) (got network.receive made mid);
      others = λ name out. ap (λ (f : Files). get f name) is
          ∙ get_past (network_outputs plan network stream made) name held (
            λ same. out (0, omega arith, sym same),
            no_output-append sent rest name (not_named ts (played steps) name (λ has. out
                (behind name out (transmitter_names ts ++ received_names network.receive)
                (Contains-append_left (transmitter_names ts) (received_names network.receive) name has))))
                (not_received network.receive made name
                (λ has. out (behind name out (transmitter_names ts ++ received_names network.receive)
                (Contains-append_right (transmitter_names ts) (received_names network.receive) name has)))),
          );
    }
  where
    behind : (name : List ℕ) → ¬ Contains (written_names plan network) name → (names : List (List ℕ))
        → Contains names name → Contains (feed_name ∷ names) name
    behind name out names has = (suc has.0, let w = has.1 in omega (arith, w), has.2)
