-- The bytes from each turn's on are still to be put. Assumes nothing.
use Rattle.std.proofs.Common.{◌≡◌, drop}
use Rattle.traffic.specs.Coded.{puts}
use Rattle.report.proofs.texts.put_text.Given as goal

abbrev pub invariant-loop-byte : goal.invariant-loop-byte
invariant-loop-byte l = puts l.page (drop l.byte-index l.text) ≡ puts l.initial.page l.text
