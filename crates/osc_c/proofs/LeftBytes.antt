-- What a refused opening leaves, by the status that C sees, and that what opens is not refused.
use Rattle.std.proofs.Common.{◌≡◌, ◌≢◌, ◌∙◌, ℕ, List, Option, ap, refl, subst, sym}
use Rattle.osc_coap.specs.declared.format_error.Fault.{Fault}
use Rattle.osc_coap.specs.declared.format_error.Fault.TheVariants as faults
use Rattle.osc_protect.specs.Protection.{Protection}
use Rattle.osc_protect.specs.Refusals.{RefusesToOpen}
use Rattle.osc_protect.specs.StageViews.{LeavesRequest, LeavesResponse}
use Rattle.osc_protect.specs.declared.unprotect_error.UnprotectError.{UnprotectError}
use Rattle.osc_protect.specs.declared.unprotect_error.UnprotectError.TheVariants as opens
use Rattle.osc_c.specs.Calls.{RefusesOpening}
use Rattle.osc_c.specs.Calls.RefusesOpening.{bad_handle, bad_number, refused}
use Rattle.osc_c.specs.Opened.{LeavesRequestIn, LeavesResponseIn}
use Rattle.osc_status.specs.Statuses.{format_status, open_status}
use Rattle.osc_status.specs.declared.status.Status.{Status}
use Rattle.osc_status.specs.declared.status.Status.TheVariants.{Inner}

no_fault : (fault : Fault) → format_status fault ≢ Inner
no_fault faults.DatagramTooLong = λ h. cc
no_fault faults.Short = λ h. cc
no_fault faults.Version = λ h. cc
no_fault faults.TokenLength = λ h. cc
no_fault faults.EmptyWithRest = λ h. cc
no_fault faults.TokenCut = λ h. cc
no_fault faults.Nibble15 = λ h. cc
no_fault faults.OptionCut = λ h. cc
no_fault faults.NumberTooLarge = λ h. cc
no_fault faults.EmptyPayload = λ h. cc

-- the status Inner comes from the refusal Inner alone
only_inner : (e : UnprotectError) → open_status e ≡ Inner → e ≡ opens.Inner
only_inner (opens.Format e) h = absurd (no_fault e.fault h)
only_inner opens.NotThatKind h = absurd (cc)
only_inner opens.NoOscore h = absurd (cc)
only_inner opens.Undecodable h = absurd (cc)
only_inner opens.WrongContext h = absurd (cc)
only_inner opens.Tag h = absurd (cc)
only_inner opens.Inner h = refl

pub request_left : (f g : Protection ℕ) (old new : List ℕ) (e : UnprotectError) (status : Status) → f ≡ g → status ≡ open_status e → LeavesRequest f old e new → LeavesRequestIn g old status new
request_left f g old new e status same is left =
    let l : LeavesRequest g old e new = subst (λ (h : Protection ℕ). LeavesRequest h old e new) same left in
    record {
      same = λ other. l.same (λ inner. other (is ∙ ap open_status inner));
      decrypted = λ inner. l.decrypted (only_inner e (sym is ∙ inner));
    }

pub response_left : (f g : Protection (Option ℕ)) (old new : List ℕ) (e : UnprotectError) (status : Status) → f ≡ g → status ≡ open_status e → LeavesResponse f old e new → LeavesResponseIn g old status new
response_left f g old new e status same is left =
    let l : LeavesResponse g old e new = subst (λ (h : Protection (Option ℕ)). LeavesResponse h old e new) same left in
    record {
      same = λ other. l.same (λ inner. other (is ∙ ap open_status inner));
      decrypted = λ inner. l.decrypted (only_inner e (sym is ∙ inner));
    }

-- what opens is not refused
pub never_refuses : {I A B : Type 0} (f : Protection I) (d : List ℕ) (status : Status) (why : ℕ) → A → B → ((e : UnprotectError) → RefusesToOpen f d e → ⊥) → RefusesOpening A B f d status why → ⊥
never_refuses f d status why handle number opens (bad_handle none is at) = none handle
never_refuses f d status why handle number opens (bad_number has none is at) = none number
never_refuses f d status why handle number opens (refused has small e refuses is at) = opens e refuses
