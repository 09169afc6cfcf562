use Rattle.std.proofs.Common.{◌≡◌, ℕ, ◌<◌, ◌≤◌, None, option_map, unwrap_or, get_or, length}
use Rattle.dtx_rounds.proofs.pins.read_known.Given as goal

abbrev pub invariant-loop-e : goal.invariant-loop-e
invariant-loop-e l = record {
  bytes : (e : ℕ) → e < l.e → get_or l.bytes e 0 ≡ unwrap_or (get_or l.known e None) 0;
  unknown : (e : ℕ) → e < l.e
      → get_or l.unknown e 0 ≡ unwrap_or (option_map (λ byte. 0) (get_or l.known e None)) 4;
  no_byte : (e : ℕ) → l.e ≤ e → e < 12 → get_or l.bytes e 0 ≡ 0;
  no_pin : (e : ℕ) → l.e ≤ e → e < 12 → get_or l.unknown e 0 ≡ 4;
  bytes_long : length l.bytes ≡ 12;
  unknown_long : length l.unknown ≡ 12;
}
