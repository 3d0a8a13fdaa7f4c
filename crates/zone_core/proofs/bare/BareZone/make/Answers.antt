use Rattle.std.proofs.Common.{rules, refl}
use Rattle.zone_core.proofs.MadeAs.{made_as}
use Rattle.zone_core.proofs.bare.BareZone.make.Goals as goal

pub returns-in-Load-clause-made : goal.returns-in-Load-clause-made
returns-in-Load-clause-made g c = made_as c.load.result c.map-in-Load.result c.in-Load.is refl (search rules) c.load.ensures.made

pub returns-in-Store-clause-made : goal.returns-in-Store-clause-made
returns-in-Store-clause-made g c = made_as c.store.result c.done.result c.in-Store.is refl c.done.ensures.refused c.store.ensures.made

pub returns-in-Share-clause-made : goal.returns-in-Share-clause-made
returns-in-Share-clause-made g c = made_as c.share.result c.done-in-Share.result c.in-Share.is refl c.done-in-Share.ensures.refused c.share.ensures.made

pub returns-in-Unmap-clause-made : goal.returns-in-Unmap-clause-made
returns-in-Unmap-clause-made g c = made_as c.unmap.result c.done-in-Unmap.result c.in-Unmap.is refl c.done-in-Unmap.ensures.refused c.unmap.ensures.made

pub returns-in-Unpin-clause-made : goal.returns-in-Unpin-clause-made
returns-in-Unpin-clause-made g c = made_as c.unpin.result c.done-in-Unpin.result c.in-Unpin.is refl c.done-in-Unpin.ensures.refused c.unpin.ensures.made

pub returns-in-TakeOrder-clause-made : goal.returns-in-TakeOrder-clause-made
returns-in-TakeOrder-clause-made g c = made_as c.take_order.result c.map-in-TakeOrder.result c.in-TakeOrder.is refl (search rules) c.take_order.ensures.made

pub returns-in-GiveOrder-clause-made : goal.returns-in-GiveOrder-clause-made
returns-in-GiveOrder-clause-made g c = made_as c.give_order.result c.done-in-GiveOrder.result c.in-GiveOrder.is refl c.done-in-GiveOrder.ensures.refused c.give_order.ensures.made

pub returns-in-Mark-clause-made : goal.returns-in-Mark-clause-made
returns-in-Mark-clause-made g c = made_as c.mark.result c.done-in-Mark.result c.in-Mark.is refl c.done-in-Mark.ensures.refused c.mark.ensures.made

pub returns-in-TakeOrder-clause-answer : goal.returns-in-TakeOrder-clause-answer
returns-in-TakeOrder-clause-answer g c = search rules

pub returns-in-Unmark-clause-made : goal.returns-in-Unmark-clause-made
returns-in-Unmark-clause-made g c = search rules
