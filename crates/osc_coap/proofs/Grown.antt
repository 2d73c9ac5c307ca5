-- What stands in the buffer once an option or a payload is written.
use Rattle.std.proofs.Common.{refl, ◌≡◌, ◌≢◌, ℕ, ◌+◌, ◌-◌, ◌≤◌, List, [], ◌∷◌, ◌++◌, length, take, drop, sym, ap, subst, ◌∙◌, arith, length-take}
use Rattle.std.proofs.lemmas.List.{append-nil, length-append, drop-drop}
use Rattle.osc_coap.specs.declared.message.Kind.{Kind}
use Rattle.osc_coap.specs.declared.writer.Writer.{Writer}
use Rattle.osc_coap.specs.declared.writer.Stage.{Stage}
use Rattle.osc_coap.specs.declared.writer.Stage.TheVariants.{Open, Closed}
use Rattle.osc_coap.specs.OptionSpelling.{AreBytes, last_number, option_length}
use Rattle.osc_coap.specs.OptionText.{placed, option_text}
use Rattle.osc_coap.specs.Datagram.{head}
use Rattle.osc_coap.specs.Writing.{Draft, Datagram, bare, options_of, payload_of, length_of, with_option, with_payload, IsEmptyMessage}
use Rattle.osc_coap.specs.Drafts.{IsDraft}
use Rattle.osc_coap.specs.Held.{IsHeld, IsAt, TakesNow, limit_of}
use Rattle.osc_coap.proofs.Bytes.{bytes_take}
use Rattle.osc_coap.proofs.Placed.{front_placed, behind_placed, length-placed}
use Rattle.osc_coap.proofs.OptionTexts.{length-option_text, last_number-push}
use Rattle.osc_coap.proofs.Drafts.{draft_option, draft_payload, length_more, length_marked, options_more, payload_stays, empty_stays, options_stay, payload_now, empty_remains}

-- the buffer holds a draft in front, and behind it what stood there in old
pub record Stands (draft : Draft) (old buf : List ℕ) (len : ℕ) : Type 0 where
  pub written : IsDraft draft (take len buf)
  pub size : len ≡ length_of draft
  pub same_room : length buf ≡ length old
  pub behind : drop len buf ≡ drop len old

-- what is equal behind one place is so behind each further on
further : (len n : ℕ) (xs ys : List ℕ) → len ≤ n → drop len xs ≡ drop len ys → drop n xs ≡ drop n ys
further len n xs ys le same =
    let m : ℕ = n - len in
    let n-is : n ≡ len + m = omega arith in
    ap (λ (k : ℕ). drop k xs) n-is ∙ sym (drop-drop m len xs) ∙ ap (drop m) same ∙ drop-drop m len ys ∙ ap (λ (k : ℕ). drop k ys) (sym n-is)

-- a longer draft whose text is written behind a shorter one
grown : (draft longer : Draft) (text old buf new : List ℕ) (len end : ℕ) → len ≤ length buf → IsDraft longer (take len buf ++ text) → length buf ≡ length old → drop len buf ≡ drop len old → end ≡ len + length text → end ≤ length buf → end ≡ length_of longer → new ≡ placed len text buf → Stands longer old new end
grown draft longer text old buf new len end within is same behind end-is room size new-is =
    record {
      written = subst (IsDraft longer) (sym (ap (take end) new-is ∙ front_placed len end text buf end-is within)) is;
      size = size;
      same_room = ap length new-is ∙ length-placed len text buf (omega arith) ∙ same;
      behind = ap (drop end) new-is ∙ behind_placed len end text buf end-is within ∙ further len end buf old (omega arith) behind;
    }

-- an option that was written
option_stands : (w : Writer) (draft : Draft) (old : List ℕ) (number delta : ℕ) (value new : List ℕ) (end : ℕ) → IsHeld w draft old → TakesNow w number (length value) → delta ≡ number - w.number → number ≤ 65535 → AreBytes value
    → new ≡ placed w.len (option_text delta value) w.buf.now → end ≡ w.len + option_length delta (length value) → Stands (with_option draft number value) old new end
option_stands w draft old number delta value new end h t delta_is small are new-is end-is =
    let stage : IsAt Open draft = subst (λ (z : Stage). IsAt z draft) t.stage h.stage in
    let last : ℕ = last_number 0 (options_of draft) in
    let delta-is : delta ≡ number - last = delta_is ∙ ap (λ (k : ℕ). number - k) h.number in
    let short = t.short in
    let room : w.len + option_length delta (length value) ≤ limit_of w = subst (λ (k : ℕ). w.len + option_length k (length value) ≤ limit_of w) (sym delta_is) t.room in
    let order : last ≤ number = subst (λ (k : ℕ). k ≤ number) h.number t.order in
    let text : List ℕ = option_text delta value in
    let long : length text ≡ option_length delta (length value) = length-option_text delta value (omega arith) (omega arith) in
    let front : length (take w.len w.buf.now) ≤ w.len = omega (arith, length-take w.len w.buf.now) in
    let fits : length (take w.len w.buf.now ++ text) ≤ 65535 = omega (arith, length-append (take w.len w.buf.now) text, front) in
    let made = draft_option draft number value (take w.len w.buf.now) h.written stage.0 stage.1 order small (omega arith) are (subst (λ (k : ℕ). length (take w.len w.buf.now ++ option_text k value) ≤ 65535) delta-is fits) in
    let is : IsDraft (with_option draft number value) (take w.len w.buf.now ++ text) = subst (λ (k : ℕ). IsDraft (with_option draft number value) (take w.len w.buf.now ++ option_text k value)) (sym delta-is) made in
    let size : end ≡ length_of (with_option draft number value) = end-is ∙ ap (λ (k : ℕ). w.len + option_length k (length value)) delta-is ∙ ap (λ (k : ℕ). k + option_length (number - last) (length value)) h.size ∙ sym (length_more draft number value) in
    grown draft (with_option draft number value) text old w.buf.now new w.len end w.within is h.same_room h.behind (omega arith) (omega arith) size new-is

-- the last number then
option_last : (draft : Draft) (number : ℕ) (value : List ℕ) → number ≡ last_number 0 (options_of (with_option draft number value))
option_last draft number value = sym (ap (last_number 0) (options_more draft number value) ∙ last_number-push 0 (options_of draft) number value)

-- what can follow then
option_stage : (s : Stage) (draft : Draft) (number : ℕ) (value : List ℕ) → s ≡ Open → IsAt s draft → IsAt s (with_option draft number value)
option_stage s draft number value e h =
    let stage : IsAt Open draft = subst (λ (z : Stage). IsAt z draft) e h in
    let next : IsAt Open (with_option draft number value) = (λ (k : IsEmptyMessage (with_option draft number value)). stage.0 (empty_stays draft number value k), payload_stays draft number value ∙ stage.1) in
    subst (λ (z : Stage). IsAt z (with_option draft number value)) (sym e) next

-- so the writer w' holds the draft with an option more
pub option_held : (w w' : Writer) (draft : Draft) (old : List ℕ) (number : ℕ) (value : List ℕ)
    → IsHeld w draft old → TakesNow w number (length value) → number ≤ 65535 → AreBytes value
    → w'.number ≡ number → w'.stage ≡ w.stage → w'.buf.now ≡ placed w.len (option_text (number - w.number) value) w.buf.now
    → w'.len ≡ w.len + option_length (number - w.number) (length value) → IsHeld w' (with_option draft number value) old
option_held w w' draft old number value h t small are number-is stage-is new-is end-is =
    let stands = option_stands w draft old number (number - w.number) value w'.buf.now w'.len h t refl small are new-is end-is in
    let stage = option_stage w.stage draft number value t.stage h.stage in
    record {
      written = stands.written;
      size = stands.size;
      same_room = stands.same_room;
      behind = stands.behind;
      number = number-is ∙ option_last draft number value;
      stage = subst (λ (z : Stage). IsAt z (with_option draft number value)) (sym stage-is) stage;
    }

-- a payload that was written
pub payload_stands : (w : Writer) (draft : Draft) (old payload new : List ℕ) (end : ℕ) → IsHeld w draft old → w.stage ≡ Open → payload ≢ [] → AreBytes payload → w.len + (1 + length payload) ≤ length w.buf.now → w.len + (1 + length payload) ≤ 65535
    → new ≡ placed w.len (255 ∷ payload) w.buf.now → end ≡ w.len + (1 + length payload) → Stands (with_payload draft payload) old new end
payload_stands w draft old payload new end h is_open some are room limit new-is end-is =
    let stage : IsAt Open draft = subst (λ (z : Stage). IsAt z draft) is_open h.stage in
    let front : length (take w.len w.buf.now) ≤ w.len = omega (arith, length-take w.len w.buf.now) in
    let fits : length (take w.len w.buf.now ++ (255 ∷ payload)) ≤ 65535 = omega (arith, length-append (take w.len w.buf.now) (255 ∷ payload), front) in
    let size : end ≡ length_of (with_payload draft payload) = end-is ∙ ap (λ (k : ℕ). k + (1 + length payload)) h.size ∙ sym (length_marked draft payload stage.1 some) in
    grown draft (with_payload draft payload) (255 ∷ payload) old w.buf.now new w.len end w.within (draft_payload draft payload (take w.len w.buf.now) h.written stage.0 stage.1 some are fits) h.same_room h.behind (omega arith) (omega arith) size new-is

-- the last number then
pub payload_last : (draft : Draft) (payload : List ℕ) (n : ℕ) → n ≡ last_number 0 (options_of draft) → n ≡ last_number 0 (options_of (with_payload draft payload))
payload_last draft payload n h = h ∙ ap (last_number 0) (sym (options_stay draft payload))

-- nothing can follow then
pub payload_stage : (s : Stage) (draft : Draft) (payload : List ℕ) → s ≡ Open → payload ≢ [] → IsAt s draft → IsAt Closed (with_payload draft payload)
payload_stage s draft payload e some h =
    let stage : IsAt Open draft = subst (λ (z : Stage). IsAt z draft) e h in
    (λ (k : IsEmptyMessage (with_payload draft payload)). stage.0 (empty_remains draft payload k), λ (k : payload_of (with_payload draft payload) ≡ []). some (sym (payload_now draft payload stage.1) ∙ k))

-- a head and a token that were written
pub head_stands : (kind : Kind) (code message_id : ℕ) (token old new : List ℕ) (end : ℕ) → AreBytes new → length token ≤ 8 → (code ≡ 0 → token ≡ []) → 4 + length token ≤ length old
    → new ≡ placed 0 (head (bare kind code message_id token) ++ token) old → end ≡ 4 + length token → Stands (Datagram (bare kind code message_id token)) old new end
head_stands kind code message_id token old new end are short alone room new-is end-is =
    let p = bare kind code message_id token in
    let front : List ℕ = head p ++ token in
    let end-is-long : end ≡ 0 + length front = omega arith in
    let none : ◌≡◌ {A = List ℕ} [] [] = refl in
    let made : take end new ≡ front = ap (take end) new-is ∙ front_placed 0 end front old end-is-long (omega arith) in
    record {
      written = record {
        are_bytes = bytes_take end new are;
        fits = omega (arith, ap length made);
        token = short;
        spelled = [];
        spells = none;
        whole = made ∙ sym (append-nil front);
        empty = λ e. let no_token : length token ≡ 0 = ap length (alone e) in omega (arith, ap length made);
      };
      size = omega arith;
      same_room = ap length new-is ∙ length-placed 0 front old (omega arith);
      behind = ap (drop end) new-is ∙ behind_placed 0 end front old end-is-long (omega arith);
    }
