use Rattle.std.proofs.Common.{[], false, ap, refl, sym, subst, arith}
use Rattle.std.proofs.lemmas.Option.{get_or_from_slice_get}
use Rattle.hand_core.specs.CopyEnds.{DoneSender, DoneTaker}
use Rattle.round_core.specs.Crews.{IsUnsent}
use Rattle.round_core.proofs.Early.{not_ended}
use Rattle.round_core.proofs.memory.open_queues.Goals as goal

pub returns-clause-senders : goal.returns-clause-senders
returns-clause-senders g c =
    let made = c.in_ok-senders.ensures.senders in
    let senders = c.in_ok-senders.senders.items in
    let queue = c.in_ok-senders.copies.queue in (
      omega (arith, made),
      λ k d low.
          let unsent : DoneSender = record { queue = queue; most = c.args.division.most; number = k; sent = []; marked = false; closed = false } in
          let long = c.in_ok-senders.senders.ok in
          let is = get_or_from_slice_get senders k unsent d (c.in_ok-senders.ensures.fresh k (omega arith)) in
          subst IsUnsent (sym is) (record { open_still = refl; none = refl }),
    )

pub returns-clause-copies : goal.returns-clause-copies
returns-clause-copies g c =
    let fresh = c.in_ok-senders.ensures.taker in
    let senders = ap (λ (t : DoneTaker). t.senders) fresh in
    let some = c.requires in
    not_ended c.in_ok-senders.copies (omega (arith, senders, some)) (ap (λ (t : DoneTaker). t.came) fresh)

pub returns-clause-sent : goal.returns-clause-sent
returns-clause-sent g c =
    let senders = c.in_ok-senders.senders.items in
    let queue = c.in_ok-senders.copies.queue in
    λ k d low.
    let unsent : DoneSender = record { queue = queue; most = c.args.division.most; number = k; sent = []; marked = false; closed = false } in
    let made = c.in_ok-senders.ensures.senders in
    let long = c.in_ok-senders.senders.ok in
    ap (λ (s : DoneSender). s.most) (get_or_from_slice_get senders k unsent d (c.in_ok-senders.ensures.fresh k (omega (arith, made))))
