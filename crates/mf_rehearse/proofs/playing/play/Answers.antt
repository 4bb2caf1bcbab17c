use Rattle.std.proofs.Common.{refl}
use Rattle.mf_wire.specs.Lines.{lines_of}
use Rattle.mf_rehearse.proofs.Sent.{ended_there, number_there, plays}
use Rattle.mf_rehearse.proofs.playing.play.Goals as goal

pub returns : goal.returns
returns g c =
    let p = c.args.pass in
    let q = c.in_ok-replies.pass in
    let lines = lines_of c.args.input.now in
    let m = c.number-number.result in
    let told = c.in_ok-replies.ensures.told in
    let sent = c.in_ok-requests.requests.items in
    let said = c.in_ok-replies.replies.taken in
    record {
      own = c.in_ok-replies.ensures.own;
      pin = told.free.pin;
      ended = ended_there c.args.hub.now lines c.requires.short p q m sent said c.requires.ready c.number-number.ensures c.in_ok-requests.ensures told;
      part = record {
        number = m;
        replies = told.replies;
        log = q.view.log;
        made = q.view.made;
        given = q.view.given;
        heard = q.view.heard;
      };
      number = refl;
      number_is = number_there c.args.hub.now lines c.requires.short p q m sent said c.requires.ready c.number-number.ensures c.in_ok-requests.ensures told;
      replies = told.is;
      log = refl;
      made = refl;
      given = refl;
      heard = refl;
      plays = plays c.args.hub.now lines c.requires.short p q m sent said c.requires.ready c.number-number.ensures c.in_ok-requests.ensures told;
    }
