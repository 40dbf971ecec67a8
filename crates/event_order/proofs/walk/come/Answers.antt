use Rattle.event_order.proofs.Coming.{heads_move, sent_more, sent_same}
use Rattle.event_order.proofs.walk.come.Goals as goal

pub returns-in-Some-clause-walk : goal.returns-in-Some-clause-walk
returns-in-Some-clause-walk c came walk = record {
  next = heads_move c.args.events.now came c.args.heads.now c.args.place c.first_of.result c.requires.nodes walk.next c.requires.there c.requires.head c.first_of.ensures;
  messages = sent_more c.args.events.now came c.args.sent.now c.args.place c.in-Some.message (c.requires.messages.sends c.args.place c.in-Some.message c.in-Some.is) walk.messages c.in-Some.is;
}

pub returns-in_default-clause-walk : goal.returns-in_default-clause-walk
returns-in_default-clause-walk c came walk = record {
  next = heads_move c.args.events.now came c.args.heads.now c.args.place c.first_of.result c.requires.nodes walk.next c.requires.there c.requires.head c.first_of.ensures;
  messages = sent_same c.args.events.now came c.args.sent.now c.args.place walk.messages c.in_default.is;
}
