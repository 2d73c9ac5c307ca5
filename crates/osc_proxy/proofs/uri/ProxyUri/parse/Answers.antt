use Rattle.osc_proxy.proofs.Decompositions.{read_accepted, read_accepts, read_refused, read_refuses}
use Rattle.osc_proxy.proofs.uri.ProxyUri.parse.Goals as goal

pub returns-clause-accepted : goal.returns-clause-accepted
returns-clause-accepted c = read_accepted c.args.uri.now c.read.result c.read.ensures

pub returns-clause-accepts : goal.returns-clause-accepts
returns-clause-accepts c = read_accepts c.args.uri.now c.read.result c.read.ensures

pub returns-clause-refused : goal.returns-clause-refused
returns-clause-refused c = read_refused c.args.uri.now c.read.result c.read.ensures

pub returns-clause-refuses : goal.returns-clause-refuses
returns-clause-refuses c = read_refuses c.args.uri.now c.read.result c.read.ensures
