use Rattle.std.proofs.Common.{◌≡◌, ◌∙◌, ap, sym, rules, tests, arith, true, false}
use Rattle.std.specs.Prelude.{map}
use Rattle.std.proofs.lemmas.Bool.Decides.{when_false}
use Rattle.std.proofs.lemmas.Iterator.{cases_from_any, YieldsList-from_slice}
use Rattle.arrayvec.proofs.ArrayVecLemmas.{filter-from_retain}
use Rattle.osc_client.specs.declared.pending.Pending.{Pending}
use Rattle.osc_client.specs.ClientHistory.{is_alive}
use Rattle.osc_client.specs.Views.{asked_of}
use Rattle.osc_client.proofs.Asking.{kept, map_filter}
use Rattle.osc_client.proofs.pending.drop_expired.Goals as goal

pub returns-then-any : goal.returns-then-any
returns-then-any g c =
    ap (map asked_of) (filter-from_retain _ (λ (x : Pending). is_alive c.args.clock c.args.life_ms (asked_of x)) _ (λ x b f' y called. search rules) _ _ c.retain.ensures.filtered)
    ∙ map_filter (is_alive c.args.clock c.args.life_ms) c.args.pending.now.items

pub returns-else-any : goal.returns-else-any
returns-else-any g c =
    let xs = c.args.pending.now.items in
    let stays = λ (x : Pending). is_alive c.args.clock c.args.life_ms (asked_of x) in
    let each = cases_from_any _ _ _ (λ (x : Pending). stays x ≡ false) (λ (x : Pending). stays x ≡ true) c.any.ensures.ran (YieldsList-from_slice xs cc) (λ x q k. search (rules, tests)) (λ x q k. search (rules, tests)) in
    let no : c.any.result ≡ false = search rules in
    let none = when_false _ _ no each in
    sym (ap (map asked_of) (kept stays xs (λ k d less. none k d (omega arith) less))) ∙ map_filter (is_alive c.args.clock c.args.life_ms) xs
