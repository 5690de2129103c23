use Rattle.cops_types.proofs.HeadReading.{taken_none, taken_small, taken_some}
use Rattle.cops_types.proofs.head_lines.next_number.Goals as goal

pub returns-clause-some : goal.returns-clause-some
returns-clause-some c = taken_some c.parse_number.result c.args.words.now c.in_ok-next_word.field-0.now c.next_word.new.self c.parse_number.ensures c.in_ok-next_word.ensures

pub returns-clause-small : goal.returns-clause-small
returns-clause-small c = taken_small c.parse_number.result c.in_ok-next_word.field-0.now c.parse_number.ensures

pub returns-clause-none : goal.returns-clause-none
returns-clause-none c = taken_none c.parse_number.result c.args.words.now c.in_ok-next_word.field-0.now c.next_word.new.self c.parse_number.ensures c.in_ok-next_word.ensures
