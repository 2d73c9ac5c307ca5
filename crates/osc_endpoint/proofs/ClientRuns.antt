-- Runs of a client, one event after another.
use Rattle.std.proofs.Common.{◌≡◌, ◌∙◌, ℕ, ap, sym, subst, refl, List, [], ◌∷◌, ◌++◌, take}
use Rattle.osc_endpoint.specs.declared.client_event.ClientEvent.{ClientEvent}
use Rattle.osc_endpoint.specs.declared.client_event.ClientEntry.{ClientEntry}
use Rattle.osc_client.specs.ClientHistory.{History}
use Rattle.osc_endpoint.specs.ClientRun.{Run, ClientRunStep}

-- a run goes on by one event
client_run_more : (n : ℕ) (h mid g : History) (es : List ClientEvent) (xs : List ClientEntry) (e : ClientEvent) (x : ClientEntry)
    → Run n h es xs mid → ClientRunStep n mid e x g → Run n h (es ++ e ∷ []) (xs ++ x ∷ []) g
client_run_more n h mid g [] [] e x r s = (g, subst (λ k. ClientRunStep n k e x g) r s, refl)
client_run_more n h mid g [] (y ∷ ys) e x r s = absurd r
client_run_more n h mid g (d ∷ ds) [] e x r s = absurd r
client_run_more n h mid g (d ∷ ds) (y ∷ ys) e x r s = (r.0, r.1, client_run_more n r.0 mid g ds ys e x r.2 s)

-- one event more, over the front of all events
pub client_run_on : (n : ℕ) (h mid g : History) (all : List ClientEvent) (i j : ℕ) (log reserved after : List ClientEntry) (e : ClientEvent) (x : ClientEntry)
    → Run n h (take i all) log mid → ClientRunStep n mid e x g → take i all ++ e ∷ [] ≡ take j all → after ≡ reserved ++ x ∷ [] → reserved ≡ log
    → Run n h (take j all) after g
client_run_on n h mid g all i j log reserved after e x run step events_are entries_are same =
    subst (λ es. Run n h es after g) events_are
    (subst (λ xs. Run n h (take i all ++ e ∷ []) xs g) (sym (entries_are ∙ ap (λ ys. ys ++ x ∷ []) same)) (client_run_more n h mid g (take i all) log e x run step))
