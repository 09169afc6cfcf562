-- The words of keys and rules in the line of a refusal.
use Rattle.std.specs.Prelude.{ℕ, codes, List}
use Rattle.dtx_plan.specs.declared.key.PlanKey.{PlanKey}
use Rattle.dtx_plan.specs.declared.key.PlanKey.TheVariants as key
use Rattle.dtx_plan.specs.declared.rule.PlanRule.{PlanRule}
use Rattle.dtx_plan.specs.declared.rule.PlanRule.TheVariants as rule

-- a key's word is its name in the file; in the tables `receive` and `damage` the table's name stands before it
abbrev pub key_word : PlanKey → List ℕ
key_word key.Whole = codes "whole"
key_word key.Start = codes "start"
key_word key.MaxDelay = codes "max_delay"
key_word key.Transmitter = codes "transmitter"
key_word key.Address = codes "address"
key_word key.Offset = codes "offset"
key_word key.Delay = codes "delay"
key_word key.Net = codes "net"
key_word key.Stream = codes "stream"
key_word key.Event = codes "event"
key_word key.Do = codes "do"
key_word key.To = codes "to"
key_word key.Seed = codes "seed"
key_word key.From = codes "from"
key_word key.Count = codes "count"
key_word key.At = codes "at"
key_word key.With = codes "with"
key_word key.States = codes "states"
key_word key.Receive = codes "receive"
key_word key.ReceiveFrom = codes "receive.from"
key_word key.Damage = codes "damage"
key_word key.DamageAt = codes "damage.at"
key_word key.DamageCount = codes "damage.count"
key_word key.DamagePut = codes "damage.put"

-- a rule's word
abbrev pub rule_word : PlanRule → List ℕ
rule_word rule.Size = codes "size"
rule_word rule.Text = codes "text"
rule_word rule.Unknown = codes "unknown"
rule_word rule.Missing = codes "missing"
rule_word rule.Kind = codes "kind"
rule_word rule.Range = codes "range"
rule_word rule.Twice = codes "twice"
rule_word rule.Stranger = codes "stranger"
rule_word rule.Order = codes "order"
