use Rattle.std.proofs.Common.{◌≡◌, true, false}
use Rattle.osc_c.proofs.proxies.oscore_split_proxy_uri_v6.Goals as goal

pub returns-in-Err-clause-accepts : goal.returns-in-Err-clause-accepts
returns-in-Err-clause-accepts c p u fits = let no : false ≡ true = c.in-Err.ensures.accepts p u fits in cc
