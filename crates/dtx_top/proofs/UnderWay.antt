-- The files of the transmitters by their names, while a schedule is under way.
use Rattle.std.proofs.Common.{◌≡◌, ◌≢◌, ℕ, ◌*◌, ◌+◌, List, [], ◌∷◌, length, take, sym, subst, ◌∙◌, arith}
use Rattle.std.specs.Prelude.{Option, Some, None, IsSomeAnd}
use Rattle.std.specs.FinMap.{get}
use Rattle.std.proofs.lemmas.Option.{same_Some}
use Rattle.dtx_meaning.specs.Meaning.{IsNoOutput, Outputs}
use Rattle.dtx_meaning.specs.declared.status.Status.{Status}
use Rattle.dtx_net.specs.Steps.{Step}
use Rattle.dtx_network.specs.Network.{steps_under}
use Rattle.dtx_network.specs.Plans.{IsPlan}
use Rattle.dtx_outside.specs.Shelf.{Files}
use Rattle.dtx_packets.specs.Packets.{packets_of}
use Rattle.dtx_plan.specs.declared.plan.NetPlan.{NetPlan}
use Rattle.dtx_plan.specs.declared.plan.Plan.{Plan}
use Rattle.dtx_plan.specs.declared.plan.ReceivePlan.{ReceivePlan}
use Rattle.dtx_plan.specs.declared.transmitter.Transmitter.{Transmitter}
use Rattle.dtx_schedule.proofs.FilesLemmas.{AreApart, files_with, get_past, has_pair, with_outputs-told}
use Rattle.dtx_schedule.proofs.ProgressLemmas.{all_files}
use Rattle.dtx_schedule.specs.TransmitterFiles.{files_of, log_file, symbol_file}
use Rattle.dtx_words.specs.Names.{log_name, received_name, symbol_name}
use Rattle.dtx_top.specs.NetProgress.{AreFirstParts, AreUnderWay, HasNetProgress, IsBetween, NetProgress}
use Rattle.dtx_top.specs.NetProgress.{reception_outputs}
use Rattle.dtx_top.proofs.Headlines.{apart_plan}
use Rattle.dtx_top.proofs.NetFiles.{files_with-append, log_not_received, symbols_not_received}

-- ---- other names than that of what is received

no_part : (parts outputs : Outputs) (name : List ℕ) → AreFirstParts parts outputs → IsNoOutput name outputs
    → IsNoOutput name parts
no_part [] outputs name are apart = tt
no_part (part ∷ parts) [] name are apart = absurd are
no_part (part ∷ parts) (o ∷ rest) name (same, front, more) apart =
    (λ is. apart.0 (is ∙ same), no_part parts rest name more apart.1)

no_reception : (plan : Plan) (network : NetPlan) (stream : List (List ℕ)) (name : List ℕ) → name ≢ received_name
    → (receive : Option ReceivePlan) → IsNoOutput name (reception_outputs plan network stream receive)
no_reception plan network stream name apart None = tt
no_reception plan network stream name apart (Some receiver) = grind arith

-- ---- by name

-- a file of this name holds what stands behind the feed, where it isn't what is received
behind_feed : (whole_feed whole_reception : Outputs) (ts : List Transmitter) (steps : List Step) (status : Status)
    (held now : Files) (progress : NetProgress whole_feed ts steps whole_reception status held (Some now))
    (name : List ℕ) → progress.schedule.begun ≡ 2 * length ts → IsNoOutput name whole_reception → get now name
    ≡ get (files_with (files_of progress.schedule.contents ts) (files_with progress.feed held)) name
behind_feed whole_feed whole_reception ts steps status held now progress name begun apart =
    grind (arith, all_files, files_with, same_Some, with_outputs-told, files_with-append, get_past, no_part)

pub under_way : (plan : Plan) (network : NetPlan) (file : List ℕ) (status : Status) (held now : Files)
    (progress : HasNetProgress plan network file status held (Some now)) → IsPlan plan
    → progress.schedule.begun ≡ 2 * length plan.transmitters
    → AreUnderWay plan.transmitters (steps_under plan (packets_of file) network.events) progress.schedule.done now
under_way plan network file status held now progress is begun =
    let done : ℕ = progress.schedule.done in
    let apart : AreApart ts = apart_plan plan is in
    record {
      symbols = λ who t at_t. found (symbol_name t.address) (progress.schedule.contents who t).0
          (IsBetween (symbol_file t who (take done steps)) (symbol_file t who (take (done + 1) steps)))
          (symbols_not_received t.address) (has_pair ts who t progress.schedule.contents fed apart at_t).sent
          ((progress.schedule.least who t at_t).0, (progress.schedule.most who t at_t).0);
      logs = λ who t at_t. found (log_name t.address) (progress.schedule.contents who t).1
          (IsBetween (log_file t who (take done steps)) (log_file t who (take (done + 1) steps)))
          (log_not_received t.address) (has_pair ts who t progress.schedule.contents fed apart at_t).logged
          ((progress.schedule.least who t at_t).1, (progress.schedule.most who t at_t).1);
    }
  where
    ts : List Transmitter
    ts = plan.transmitters

    steps : List Step
    steps = steps_under plan (packets_of file) network.events

    fed : Files
    fed = files_with progress.feed held

    found : (name bytes : List ℕ) (P : List ℕ → Type 0) → name ≢ received_name
        → get (files_with (files_of progress.schedule.contents ts) fed) name ≡ Some bytes → P bytes
        → IsSomeAnd (get now name) P
    found name bytes P other there holds = subst (λ o. IsSomeAnd o P)
        (sym (behind_feed _ (reception_outputs plan network (packets_of file) network.receive) ts steps status held now
        progress name begun (no_reception plan network (packets_of file) name other network.receive) ∙ there)) holds
