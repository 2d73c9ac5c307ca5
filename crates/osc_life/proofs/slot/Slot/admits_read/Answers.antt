use Rattle.std.proofs.Common.{◌≡◌, subst}
use Rattle.osc_protect.specs.Views.{message_of}
use Rattle.osc_context.specs.Views.{number_of}
use Rattle.osc_life.specs.Doubting.{OpensBy, StaysBy}
use Rattle.osc_life.specs.Life.{Carries, in_force}
use Rattle.osc_life.proofs.slot.Slot.admits_read.Goals as goal

pub returns-clause-yes : goal.returns-clause-yes
returns-clause-yes c = λ yes l a closed x s d n m can decrypts protects.
    let o = c.opened.ensures x can s d decrypts in
    let same : message_of c.opened.result ≡ m = (c.one_request.ensures s).message d o.number n (message_of c.opened.result) m o.protects protects in
    subst (λ k. OpensBy l.doubt (number_of c.args.number) (Carries (in_force l c.args.clock) k)) same (c.admits.ensures.yes yes l a closed)

pub returns-clause-no : goal.returns-clause-no
returns-clause-no c = λ no l a.
    let (closed, never) = c.admits.ensures.no no l a in (
      closed,
      (λ x s d n m can decrypts protects.
          let o = c.opened.ensures x can s d decrypts in
          let same : message_of c.opened.result ≡ m = (c.one_request.ensures s).message d o.number n (message_of c.opened.result) m o.protects protects in
          subst (λ k. StaysBy l.doubt (number_of c.args.number) (Carries (in_force l c.args.clock) k)) same never),
    )
