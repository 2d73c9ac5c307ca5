use Rattle.std.proofs.Common.{◌≡◌, ℕ, List, ap, Result, Ok, Err, IfOk, IfErr, IsOkAnd, IsErrOf, rules}
use Rattle.osc_protect.specs.Head.{Head, HasHead, HasNoHead}
use Rattle.osc_protect.specs.Views.{seen_head}
use Rattle.osc_protect.specs.Laws.{OneHead}
use Rattle.osc_protect.specs.declared.head_error.HeadError.{HeadError}
use Rattle.osc_protect.specs.declared.request_head.RequestHead.{RequestHead}
use Rattle.osc_protect.specs.declared.usage.Usage.TheVariants.{Request}
use Rattle.osc_protect.proofs.request_head.head_of_request.Goals as goal

only : (laws : OneHead Request) (d : List ℕ) (r : Result RequestHead HeadError) → IfOk r (λ h. HasHead Request d (seen_head h)) → IfErr r (λ e. HasNoHead Request d e) → (h : Head) → HasHead Request d h → IsOkAnd r (λ x. seen_head x ≡ h)
only laws d (Ok x) y z h k = laws.head d (seen_head x) h y k
only laws d (Err e) y z h k = laws.never_both d h e k z

exactly : (laws : OneHead Request) (d : List ℕ) (r : Result RequestHead HeadError) → IfOk r (λ h. HasHead Request d (seen_head h)) → IfErr r (λ e. HasNoHead Request d e) → (e : HeadError) → HasNoHead Request d e → IsErrOf r e
exactly laws d (Ok x) y z e k = absurd (laws.never_both d (seen_head x) e y k)
exactly laws d (Err f) y z e k = ap Err (laws.refusal d f e z k)

pub returns-in-Ok-clause-accepts : goal.returns-in-Ok-clause-accepts
returns-in-Ok-clause-accepts c = only c.one_head.ensures.request c.args.datagram.now (Ok c.of_request.result) (search rules) tt

pub returns-in-Ok-clause-refuses : goal.returns-in-Ok-clause-refuses
returns-in-Ok-clause-refuses c = exactly c.one_head.ensures.request c.args.datagram.now (Ok c.of_request.result) (search rules) tt

pub returns-in-Err-clause-accepts : goal.returns-in-Err-clause-accepts
returns-in-Err-clause-accepts c = only c.one_head.ensures.request c.args.datagram.now (Err c.in-Err.error) tt (search rules)

pub returns-in-Err-clause-refuses : goal.returns-in-Err-clause-refuses
returns-in-Err-clause-refuses c = exactly c.one_head.ensures.request c.args.datagram.now (Err c.in-Err.error) tt (search rules)
