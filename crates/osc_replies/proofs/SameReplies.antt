-- The same request, the same reply.
use Rattle.std.proofs.Common.{◌≡◌, ◌∙◌, ℕ, List, ap, inl, inr, get_or, subst, sym}
use Rattle.std.specs.List.{Contains}
use Rattle.std.proofs.lemmas.Bool.{cases_order}
use Rattle.std.proofs.lemmas.List.{get_or_default}
use Rattle.osc_coap.specs.Datagram.{Parts}
use Rattle.osc_coap.specs.Laws.{DatagramIsOneMessage}
use Rattle.osc_coap.specs.OptionNumbers.{oscore}
use Rattle.osc_coap.specs.OptionSpelling.{Entry}
use Rattle.osc_coap.specs.Search.{has_number, values_at}
use Rattle.osc_context.specs.Laws.{OneValue}
use Rattle.osc_context.specs.OscoreValue.{IsOscoreValue, OscoreParts}
use Rattle.osc_protect.specs.OptionSets.{is_proxy}
use Rattle.osc_replies.specs.Memory.{Asks, IsReply, Kept, NumbersDiffer}
use Rattle.osc_replies.specs.Laws.{SameMessage, SameReply}
use Rattle.osc_replies.proofs.Asking.{first_is, some_is}

-- the requests that two messages with one option ask for have one number
one_number : OneValue → (p q : Parts) (k l : Kept) → values_at oscore p.options ≡ values_at oscore q.options → Asks p k.number k.option k.text → Asks q l.number l.option l.text → k.number ≡ l.number
one_number one p q k l same a b =
    let values : a.shows.value ≡ b.shows.value = first_is _ _ (sym a.shows.single ∙ same ∙ b.shows.single) in
    let reads : IsOscoreValue b.head.parts a.shows.value = subst (λ (v : List ℕ). IsOscoreValue b.head.parts v) (sym values) b.shows.reads in
    let parts = one a.head.parts b.head.parts a.shows.value a.shows.reads reads in
    some_is k.number l.number (sym a.numbered ∙ ap (λ (v : OscoreParts). v.piv) parts ∙ b.numbered)

-- a number belongs to one request of a memory
one_kept : (memory : List Kept) (k l : Kept) → NumbersDiffer memory → Contains memory k → Contains memory l → k.number ≡ l.number → k ≡ l
one_kept memory k l differ (i, i-less, i-is) (j, j-less, j-is) same =
    let there : get_or memory j k ≡ l = get_or_default memory j k l j-less ∙ j-is in
    elim (cases_order i j) [
      | inl here ↦ sym i-is ∙ ap (λ (n : ℕ). get_or memory n k) here ∙ there
      | inr (inl below) ↦ absurd (differ i j k below j-less (ap (λ (x : Kept). x.number) i-is ∙ same ∙ ap (λ (x : Kept). x.number) (sym there)))
      | inr (inr above) ↦ absurd (differ j i k above i-less (ap (λ (x : Kept). x.number) there ∙ sym same ∙ ap (λ (x : Kept). x.number) (sym i-is)))
    ]

pub same_reply_by : OneValue → DatagramIsOneMessage → SameReply
same_reply_by value datagram memory mid other p q reply second differ request r s =
    let kept = one_kept memory r.kept s.kept differ r.among s.among (one_number value p q r.kept s.kept request.option r.asks s.asks) in
    let says : IsReply s.said r.kept.reply = subst (λ (k : Kept). IsReply s.said k.reply) (sym kept) s.says in
    let said = datagram r.said s.said r.kept.reply r.says.datagram says.datagram in
    record {
      code = ap (λ (x : Parts). x.code) r.is ∙ ap (λ (x : Parts). x.code) said ∙ sym (ap (λ (x : Parts). x.code) s.is);
      options = ap (λ (x : Parts). x.options) r.is ∙ ap (λ (x : Parts). x.options) said ∙ sym (ap (λ (x : Parts). x.options) s.is);
      payload = ap (λ (x : Parts). x.payload) r.is ∙ ap (λ (x : Parts). x.payload) said ∙ sym (ap (λ (x : Parts). x.payload) s.is);
    }

pub same_message : SameMessage
same_message f i m d e x p same datagram used =
    record {
      outer = p;
      datagram = datagram;
      used = used;
      value = x.value;
      single = ap (λ (os : List Entry). values_at oscore os) same.options ∙ x.single;
      reads = x.reads;
      direct = ap (λ (os : List Entry). has_number is_proxy os) same.options ∙ x.direct;
      code = x.code;
      allowed = x.allowed;
      plaintext = x.plaintext;
      spells = x.spells;
      sealed = same.payload ∙ x.sealed;
    }
