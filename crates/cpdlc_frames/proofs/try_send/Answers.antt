use Rattle.records.proofs.Telling.{told-length}
use Rattle.sends.proofs.SendLaws.{down-table, up-table}
use Rattle.cpdlc_frames.proofs.try_send.Goals as goal

pub read_send-x-requires : goal.read_send-x-requires
read_send-x-requires c =
    (c.requires.0, c.requires.5, c.requires.1, c.requires.2, c.requires.6, c.requires.7)

pub shape_of-spare-then-direction-eq0 : goal.shape_of-spare-then-direction-eq0
shape_of-spare-then-direction-eq0 c =
    told-length (c.read_send-x.ensures c.args.down.now c.args.up.now (down-table _ _ _ c.if-direction-eq0.true)).told

pub returns-then-direction-eq0 : goal.returns-then-direction-eq0
returns-then-direction-eq0 c = c.verdict.ensures _ _ _ _ _ _ (c.read_send-x.ensures _ _ (down-table _ _ _ c.if-direction-eq0.true))

pub read_send-x-requires-2 : goal.read_send-x-requires-2
read_send-x-requires-2 c =
    (c.requires.0, c.requires.5, c.requires.3, c.requires.4, c.requires.6, c.requires.7)

pub shape_of-spare : goal.shape_of-spare
shape_of-spare c =
    told-length (c.read_send-x-2.ensures c.args.down.now c.args.up.now (up-table _ _ _ c.if-direction-eq0.false)).told

pub returns : goal.returns
returns c = c.verdict-2.ensures _ _ _ _ _ _ (c.read_send-x-2.ensures _ _ (up-table _ _ _ c.if-direction-eq0.false))
