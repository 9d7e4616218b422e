use Rattle.std.proofs.Common.{◌≡◌, ◌<◌, ◌++◌, ◌∷◌, [], sym, subst, set, length, rules}
use Rattle.shared_capture.specs.Seats.{ListsChanges}
use Rattle.shared_capture.proofs.Changes.{lists_more, lists_room}
use Rattle.shared_capture.proofs.front.list_change.Goals as goal

pub returns-then-marks-k-clause-listed : goal.returns-then-marks-k-clause-listed
returns-then-marks-k-clause-listed c word ne =
    let room : length c.args.changed.now.items < length c.args.marks.now = lists_room _ _ _ c.requires.listed c.args.k word c.requires.inside.0 c.requires.inside.1 ne c.if-marks-k.true in
    let pushed : c.push.new.self.items ≡ c.args.changed.now.items ++ c.args.k ∷ [] = search (rules, room) in
    subst (ListsChanges c.args.marks.now (set c.args.away.now c.args.k word)) (sym pushed)
    (lists_more _ _ _ c.requires.listed c.args.k word c.requires.inside.0 c.requires.inside.1 ne c.if-marks-k.true)
