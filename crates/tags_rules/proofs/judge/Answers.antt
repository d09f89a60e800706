-- `tags_rules::judge` meets its contract. Assumes nothing.
use mathlib.Core.Path.{sym}
use Rattle.octets.proofs.Tests.{failed, held}
use Rattle.tags_rules.proofs.Judging.{wrong-comment, second_track, second_album, next-comment}
use Rattle.tags_rules.proofs.judge.Goals as goal

pub returns-then-not-right_comment : goal.returns-then-not-right_comment
returns-then-not-right_comment c =
    let a = c.args in
    sym (wrong-comment a.c.now a.track a.album (failed c.right_comment.ensures c.if-not-right_comment.true))

pub returns-then-track-is_track : goal.returns-then-track-is_track
returns-then-track-is_track c =
    let a = c.args in
    sym
    (second_track a.c.now a.track a.album c.is_track_gain-is_track.result c.is_album_gain-is_album.result
    (held c.right_comment.ensures c.if-not-right_comment.false) c.is_track_gain-is_track.ensures c.is_album_gain-is_album.ensures c.if-track-is_track.true)

pub returns-then-album-is_album : goal.returns-then-album-is_album
returns-then-album-is_album c =
    let a = c.args in
    sym
    (second_album a.c.now a.track a.album c.is_track_gain-is_track.result c.is_album_gain-is_album.result
    (held c.right_comment.ensures c.if-not-right_comment.false) c.is_track_gain-is_track.ensures c.is_album_gain-is_album.ensures
    c.if-track-is_track.false c.if-album-is_album.true)

pub returns : goal.returns
returns c =
    let a = c.args in
    sym
    (next-comment a.c.now a.track a.album c.is_track_gain-is_track.result c.is_album_gain-is_album.result
    (held c.right_comment.ensures c.if-not-right_comment.false) c.is_track_gain-is_track.ensures c.is_album_gain-is_album.ensures
    c.if-track-is_track.false c.if-album-is_album.false)
