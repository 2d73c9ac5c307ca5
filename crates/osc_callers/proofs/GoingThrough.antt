-- Both ends go through the list of events that meets all premises.
use Rattle.std.proofs.Common.{◌≡◌, ◌⊎◌, ℕ, ◌==◌, ◌∙◌, sym, ap, subst, refl, Bool, true, false, Some, None, List, [], ◌∷◌, inl, inr, suc, zero}
use Rattle.std.proofs.Math.Dec.{eqb-suc-zero}
use Rattle.std.proofs.lemmas.Bool.{eqb-true}
use Rattle.std.specs.Option.{option_and_then}
use Rattle.std.specs.Prelude.{if◌then◌else◌, length}
use Rattle.osc_coap.specs.Class.{class, inner_options, is_inner}
use Rattle.osc_coap.specs.Datagram.{Parts}
use Rattle.osc_coap.specs.Interpreted.{interpreted, is_valid_length}
use Rattle.osc_coap.specs.OptionNumbers as options
use Rattle.osc_coap.specs.OptionSpelling.{Entry}
use Rattle.osc_coap.specs.Search.{first_of, values_at}
use Rattle.osc_context.specs.SecurityContext.{SecurityContext}
use Rattle.osc_protect.specs.Laws.{SealedOpens}
use Rattle.osc_protect.specs.Protection.{ProtectsRequest}
use Rattle.osc_protect.specs.Sealed.{SealsRequest, inside}
use Rattle.osc_window.specs.declared.window_size.WindowSize.TheVariants.{Places32}
use Rattle.osc_client.specs.declared.client.Client.{Client}
use Rattle.osc_life.specs.declared.outcome.Outcome.TheVariants as outcomes
use Rattle.osc_endpoint.specs.declared.server.ServerOf.{ServerOf}
use Rattle.osc_life.specs.declared.start.Start.TheVariants as starts
use Rattle.osc_endpoint.specs.Agrees.{Agrees}
use Rattle.osc_client.specs.Agrees.{ClientAgrees}
use Rattle.osc_client.specs.ClientHistory as asking
use Rattle.osc_life.specs.Life.{Life, Challenged, Delivered, born, marked, renewed}
use Rattle.osc_endpoint.specs.ServerAnswer.{ServerAnswer, MeetsNamedRow, arrival}
use Rattle.osc_life.specs.ServerHistory as server
use Rattle.osc_life.specs.Views.{Shows}
use Rattle.osc_kept.specs.Examples.{Ends, PremisesCanBeMet}
use Rattle.osc_callers.specs.Calls.{ClientGoes, HasNoEcho, HasOneLife, ServerGoes}
use Rattle.osc_callers.specs.Courses.{Exchange, GoesOn, Start}
use Rattle.osc_callers.specs.PremisesMet.{PremisesAreMet}

-- ---- messages without an Echo option

one_of : (b : Bool) → (b ≡ true) ⊎ (b ≡ false)
one_of true = inl refl
one_of false = inr refl

-- an Echo option is written inside too
echo_inside : (entries : List Entry) → values_at options.echo (inner_options entries) ≡ values_at options.echo entries
echo_inside [] = refl
echo_inside (entry ∷ entries) =
    let rest = echo_inside entries in
    elim (one_of (entry.0 == options.echo)) [
      | inl is ↦
          let inner : is_inner (class entry.0) ≡ true = ap (λ n. is_inner (class n)) (eqb-true _ _ is) in
          rw (inner, is) (ap (λ vs. entry.1 ∷ vs) rest)
      | inr isnt ↦ elim (one_of (is_inner (class entry.0))) [
        | inl inner ↦ rw (inner, isnt) rest
        | inr outer ↦ rw (outer, isnt) rest
      ]
    ]

pub no_echo_inside : (p : Parts) → first_of (values_at options.echo p.options) ≡ None → HasNoEcho p
no_echo_inside p none = ap first_of (echo_inside p.options) ∙ none

pub carries_none : (p : Parts) (echo : List ℕ) → HasNoEcho p → interpreted options.echo (inside p).options ≡ Some echo → ⊥
carries_none p echo none carries =
    let both : None ≡ Some echo = sym (ap (option_and_then (λ (v : List ℕ). if is_valid_length options.echo (length v) then Some v else None)) none) ∙ carries in cc

-- ---- the server's one context

pub one_life : {v : ServerOf 1} {h : server.History} → Agrees v h → (of : Life) → server.life h 0 ≡ Some of → ((k : ℕ) → server.life h (suc k) ≡ None) → HasOneLife h of
one_life agrees of there none zero other is = let same : Some of ≡ Some other = sym there ∙ is in (refl, cc)
one_life {h = h} agrees of there none (suc k) other is = let both : None ≡ Some other = sym (none k) ∙ is in absurd (cc)

-- ---- a challenge

-- a challenge shows its value and its moment
shown_challenge : (given : List ℕ) (issued : ℕ) (answer : server.Answer) → Shows (outcomes.Challenge given issued) answer
    → (i : ℕ) × (n : ℕ) × (answer ≡ server.Challenge i n given issued)
shown_challenge given issued (server.Challenge i n echo moment) shows =
    (i, n, ap (λ e. server.Challenge i n e moment) (sym shows.0) ∙ ap (λ m. server.Challenge i n given m) (sym shows.1))
shown_challenge given issued answer shows = absurd shows

-- it is one of the request that was sealed, in the one context
challenge_named : (laws : SealedOpens) (h : server.History) (of : Life) (number : ℕ) (p : Parts) (d echo : List ℕ) (i n : ℕ) (given : List ℕ) (issued : ℕ) → HasOneLife h of
    → SealsRequest of.context number p d → MeetsNamedRow h (arrival h 0 echo 0 d) (server.Challenge i n given issued) → (i ≡ 0) × (n ≡ number)
challenge_named laws h of number p d echo i n given issued one seals (j, m, life, request, (wants, has, gives, i_is, n_is)) =
    let here = one j life request.life_is in
    let protects : ProtectsRequest of.context m wants.2 d = subst (λ (l : Life). ProtectsRequest l.context m wants.2 d) here.1 wants.3 in
    (i_is ∙ here.0, n_is ∙ ((laws.request of.context number p d seals).nothing_else m wants.2 protects).0)

pub challenged : (laws : SealedOpens) (h : server.History) (of : Life) (number : ℕ) (p : Parts) (d echo reply : List ℕ) (v : ServerOf 1) (answer : server.Answer) (given : List ℕ) (issued : ℕ)
    → HasOneLife h of → SealsRequest of.context number p d → given ≡ echo → issued ≡ 0 → Shows (outcomes.Challenge given issued) answer → ServerAnswer h (server.Datagram 0 echo 0 d) (server.Took answer reply)
    → Agrees v (server.Then h (server.Datagram 0 echo 0 d) (server.Took answer reply))
    → ServerGoes h (server.Datagram 0 echo 0 d) (server.Took (server.Challenge 0 number echo 0) reply) v
challenged laws h of number p d echo reply v answer given issued one seals same now shows row agrees =
    let (i, n, is) = shown_challenge given issued answer shows in
    let goes : server.Answer → Type 0 = λ a. ServerGoes h (server.Datagram 0 echo 0 d) (server.Took a reply) v in
    let is_fresh : answer ≡ server.Challenge i n echo 0 = is ∙ ap (λ e. server.Challenge i n e issued) same ∙ ap (λ m. server.Challenge i n echo m) now in
    let went : goes (server.Challenge i n echo 0) = subst goes is_fresh (row, agrees) in
    let named = challenge_named laws h of number p d echo i n echo 0 one seals went.0.0 in
    subst (λ k. goes (server.Challenge 0 k echo 0)) named.1 (subst (λ j. goes (server.Challenge j n echo 0)) named.0 went)

-- ---- the list

pub goes_through : PremisesCanBeMet → (asker heard anew again : Client 8) (served replied server_anew admitting : ServerOf 1) (echo : List ℕ)
    → Start asker served → Exchange asker heard served replied echo
    → ((h : server.History) → Agrees replied h → ServerGoes h (server.Restart 0 64) server.Restarted server_anew)
    → ((h : asking.History) → ClientAgrees heard h → ClientGoes h (asking.Restart 64) asking.Restarted anew)
    → GoesOn anew again server_anew admitting echo → PremisesAreMet 8
goes_through can asker heard_client client_renewed again served replied server_renewed admitting echo start one restarts_server restarts_client two =
    let s : SecurityContext = start.context in
    let asked = one.asks _ start.client_starts in
    let life : Life = born s (starts.Fresh start.zero_number) Places32 in
    let delivered = one.delivers _ life start.server_starts.1 (one_life start.server_starts.1 life refl (λ i. rw (eqb-suc-zero i) refl)) in
    let answered = one.replies _ _ delivered.2.1 delivered.1 refl in
    let heard = one.hears _ asked.1 in
    let server_anew = restarts_server _ answered.1 in
    let client_anew = restarts_client _ heard.1.1 in
    let life_anew : Life = renewed 64 (marked (Some (Delivered 0)) life) in
    let asked_anew = two.asks _ client_anew.1 in
    let challenged = two.challenges _ life_anew 64 _ server_anew.1 (one_life server_anew.1 life_anew refl (λ i. rw (eqb-suc-zero i) refl)) asked_anew.0.1 in
    let told = two.is_told _ asked_anew.1 in
    let asked_again = two.asks_again _ told.1.1 in
    let life_told : Life = marked (Some (Challenged echo 0)) life_anew in
    let admitted = two.admits _ life_told challenged.1 (one_life challenged.1 life_told refl (λ i. rw (eqb-suc-zero i) refl)) in
    let ends : Ends = record { zero_number = start.zero_number; is_zero = start.is_zero; size = Places32; life_ms = 60000 } in
    record {
      context = s;
      ends = ends;
      first = one.first;
      second = two.second;
      again = two.again;
      received = delivered.0;
      challenged = told.0;
      admitted = admitted.0;
      answered = heard.0;
      echo = echo;
      response = one.response;
      challenge = two.challenge;
      reply = one.reply;
      room = one.room;
      is_kept = can 8 s ends one.first two.second two.again delivered.0 admitted.0 heard.0 told.0 echo one.response two.challenge one.reply one.room
          start.usable (carries_none one.first.plain echo one.first_plain) (carries_none two.second.plain echo two.second_plain) (
            (
              (
                (
                  (
                    (
                      (
                        (
                          (
                            (
                              (
                                (
                                  ((((((tt, tt), tt), (_, refl, asked.0)), start.server_starts.0), tt), (_, refl, delivered.2.0, tt, (_ ∷ [], ([], refl, refl)))),
                                  (_, refl, answered.0, tt, ([], (_ ∷ [], ([], refl, refl), ([], [], refl, refl)))),
                                ),
                                (_, refl, heard.1.0),
                              ),
                              (_, refl, server_anew.0, tt, ([], (_ ∷ [], ([], refl, refl), ([], [], refl, refl)))),
                            ),
                            (_, refl, client_anew.0),
                          ),
                          tt,
                        ),
                        (_, refl, asked_anew.0),
                      ),
                      tt,
                    ),
                    (_, refl, challenged.0, tt, ([], (_ ∷ [], ([], refl, refl), ([], [], refl, refl)))),
                  ),
                  (_, refl, told.1.0),
                ),
                tt,
              ),
              (_, refl, asked_again.0),
            ),
            (_, refl, admitted.2.0, tt, (_ ∷ [], ([], (_ ∷ [], ([], refl, refl), ([], [], refl, refl)), refl))),
          );
    }
