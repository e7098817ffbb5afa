use Rattle.text_parts.proofs.ByteLaws.{read_back, only_read, part_read_back, only_parts, sums_tell}
use Rattle.text_parts.proofs.laws.bytes_are_read_back.Goals as goal

pub returns : goal.returns
returns c = record { note = read_back; only_notes = only_read; part = part_read_back; only_parts = only_parts; sums = sums_tell }
