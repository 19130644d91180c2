use Rattle.lr_script.proofs.BadBytes.{first_byte, later_byte}
use Rattle.lr_script.proofs.laws.a_bad_byte_is_an_unprintable_one.Goals as goal

pub returns-clause-first : goal.returns-clause-first
returns-clause-first g c = first_byte g.S.Service.meaning

pub returns-clause-later : goal.returns-clause-later
returns-clause-later g c = later_byte g.S.Service.meaning g.met.S.Service.lawful.printable_text
