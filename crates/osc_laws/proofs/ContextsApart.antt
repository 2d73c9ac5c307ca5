-- That no two contexts of a server are ones that a request could name both, after each history of answers. R is a relation of two contexts.
use Rattle.std.proofs.Common.{◌≡◌, refl, true, Some, None}
use Rattle.std.specs.Prelude.{◌==◌}
use Rattle.osc_context.specs.SecurityContext.{SecurityContext}
use Rattle.osc_endpoint.specs.Agrees.{OneEach}
use Rattle.osc_laws.specs.Laws.{AllAnswers}
use Rattle.osc_endpoint.specs.ServerAnswer.{HaveSameLookup, ServerAnswer}
use Rattle.osc_life.specs.ServerHistory.{Add, Added, Begin, Datagram, Entry, Event, History, Notify, Replace, Replaced, Replied, Reply, Restart, Restarted, Skip, Skipped, Then, Took, life, mark_at, reply_mark_at, skip_mark_at}
use Rattle.osc_endpoint.proofs.Additions.{HasBy, HasNoneBeside, OneBy, lookup_turned, one_more, one_replaced}
use Rattle.osc_endpoint.proofs.KeptContexts.{marked_by, one_kept, restarted_context}

-- the context that is added is so related to none, and one that takes the place of another to no other than that
abbrev pub AddsFree : (SecurityContext → SecurityContext → Type 0) → History → Event → Entry → Type 0
AddsFree R h (Add s start size places) (Added index) = HasBy R h s → ⊥
AddsFree R h (Replace i s start size) Replaced = HasNoneBeside R h i s
AddsFree R h event entry = Unit {0}

pub one_after : (R : SecurityContext → SecurityContext → Type 0) → ((s t : SecurityContext) → R s t → R t s) → (h : History) (event : Event) (entry : Entry) → AddsFree R h event entry → OneBy R h
    → OneBy R (Then h event entry)
one_after R turned h (Add s start size places) (Added index) free each = one_more R turned h s start size places index each free
one_after R turned h (Datagram now echo mid d) (Took answer reply) free each = marked_by R h (Then h (Datagram now echo mid d) (Took answer reply)) (λ i. mark_at i answer) (λ i. refl) each
one_after R turned h (Reply ticket own mid plain room) (Replied bytes) free each =
    marked_by R h (Then h (Reply ticket own mid plain room) (Replied bytes)) (λ i. reply_mark_at i ticket own) (λ i. refl) each
one_after R turned h (Notify ticket plain room) (Replied bytes) free each =
    marked_by R h (Then h (Notify ticket plain room) (Replied bytes)) (λ i. reply_mark_at i ticket true) (λ i. refl) each
one_after R turned h (Restart context next) Restarted free each =
    one_kept R h (Then h (Restart context next) Restarted) (λ i. restarted_context (i == context) next (life h i)) each
one_after R turned h (Replace i s start size) Replaced free each = one_replaced R turned h i s start size free each
one_after R turned h (Skip context count) Skipped free each =
    marked_by R h (Then h (Skip context count) Skipped) (λ i. skip_mark_at i context count) (λ i. refl) each
one_after R turned h event entry free each = each

pub one_at_first : (R : SecurityContext → SecurityContext → Type 0) → OneBy R Begin
one_at_first R i j of other e f same = absurd (let e' : None ≡ Some of = e in cc)

free_lookup : (h : History) (event : Event) (entry : Entry) → ServerAnswer h event entry → AddsFree HaveSameLookup h event entry
free_lookup h (Add s start size places) (Added index) row = row.1.1
free_lookup h (Replace i s start size) Replaced row = λ j of other there same. row.1.1 (j, of, other, there, same)
free_lookup h event entry row = tt

pub contexts_differ : (h : History) → AllAnswers h → OneEach h
contexts_differ Begin all = one_at_first HaveSameLookup
contexts_differ (Then h event entry) all = one_after HaveSameLookup lookup_turned h event entry (free_lookup h event entry all.1) (contexts_differ h all.0)
