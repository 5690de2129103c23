use Rattle.std.proofs.Common.{arith}
use Rattle.cops_types.proofs.HeadReading.{tenant_found}
use Rattle.cops_types.proofs.head_lines.read_tenant.Goals as goal

pub returns : goal.returns
returns c = tenant_found c.args.last_clock (omega arith) c.args.line.now c.tenant_of.result c.tenant_of.ensures.some c.tenant_of.ensures.none
