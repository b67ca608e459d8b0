-- By the fields of the pattern. Assumes nothing.
use Rattle.std.proofs.Common.{sym, ◌∙◌, rules}
use Rattle.float.proofs.Patterns.{finite-same, field-inf, field-nan, field-normal, field-subnormal, read_back}
use Rattle.float.proofs.decode.decode.Goals as goal

pub returns-then-fraction-eq0 : goal.returns-then-fraction-eq0
returns-then-fraction-eq0 c =
    let b = c.to_bits-n.result in
    sym (read_back c.args.x b (search rules) c.to_bits-n.ensures)
    ∙ field-inf b c.if-field-eq255.true c.if-fraction-eq0.true

pub returns-else-fraction-eq0 : goal.returns-else-fraction-eq0
returns-else-fraction-eq0 c =
    let b = c.to_bits-n.result in
    sym (read_back c.args.x b (search rules) c.to_bits-n.ensures)
    ∙ field-nan b c.if-field-eq255.true c.if-fraction-eq0.false

pub returns-then-field-eq0 : goal.returns-then-field-eq0
returns-then-field-eq0 c =
    let b = c.to_bits-n.result in
    finite-same (read_back c.args.x b (search rules) c.to_bits-n.ensures) (field-subnormal b c.if-field-eq0.true)

pub returns-else-field-eq0 : goal.returns-else-field-eq0
returns-else-field-eq0 c =
    let b = c.to_bits-n.result in
    finite-same (read_back c.args.x b (search rules) c.to_bits-n.ensures)
    (field-normal b c.if-field-eq255.false c.if-field-eq0.false)
