use Rattle.std.proofs.Common.{inl, inr, refl, rules, length, sym, ◌∙◌}
use Rattle.osc_context.specs.Views.{number_of}
use Rattle.osc_replies.proofs.Apart.{answered_apart}
use Rattle.osc_replies.proofs.Keeping.{answered_at}
use Rattle.osc_replies.proofs.replies.Replies.keep_reply.Goals.{then-reply-via-then-reply, then-reply-via-else-reply+then-not-is_reply}
use Rattle.osc_replies.proofs.replies.Replies.keep_reply.Goals as goal

pub returns-in_default-clause-refused : goal.returns-in_default-clause-refused
returns-in_default-clause-refused g c = λ e. inl (λ k among same. c.in_default.ensures.none k among (same ∙ sym c.number.ensures.value))

pub returns-then-reply-clause-refused : goal.returns-then-reply-clause-refused
returns-then-reply-clause-refused g c = λ e. elim c.then-reply.branch [
  | then-reply-via-then-reply w ↦ inr (inl (search rules))
  | then-reply-via-else-reply+then-not-is_reply w ↦ inr (inr (search rules))
]

pub returns-clause-kept : goal.returns-clause-kept
returns-clause-kept g c = λ e.
    let (k, there, same) = c.in-Some.ensures.found in
    record {
      place = c.in-Some.place;
      kept = k;
      there = there;
      numbered = same ∙ c.number.ensures.value;
      is = answered_at (length c.args.self.now.entries.items) c.args.self.now.entries.items c.deref_mut.result.now c.in-Some.place c.answer.new.self c.index-deref_mut-place.result k c.args.reply.now
          refl c.deref_mut.ensures.value there (search rules) c.index-deref_mut-place.is c.answer.ensures;
    }

pub returns-clause-apart : goal.returns-clause-apart
returns-clause-apart g c = answered_apart (number_of c.args.number) c.args.reply.now _ _ (returns-clause-kept g c refl)
