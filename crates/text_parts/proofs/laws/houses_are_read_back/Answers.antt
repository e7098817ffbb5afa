use Rattle.text_parts.proofs.HouseLaws.{read_back, faulty_are_none}
use Rattle.text_parts.proofs.HouseReads.{only_read}
use Rattle.text_parts.proofs.laws.houses_are_read_back.Goals as goal

pub returns : goal.returns
returns c = record { again = read_back; only = only_read; faulty = faulty_are_none }
