use Rattle.serde_json.specs.View.{view}
use Rattle.import_core.specs.Tables.{AllTables, Keeps, all_of}
use Rattle.import_core.proofs.Numbers.{keeps_both}
use Rattle.import_core.proofs.Kept.{later_word, later_pid}
use Rattle.std.proofs.Common.{[], ◌∷◌}
use Rattle.import_core.proofs.Sights.{values_more}
use Rattle.import_core.proofs.noting.presence_for.Goals as goal

pub returns-clause-presence : goal.returns-clause-presence
returns-clause-presence g c =
    let b : AllTables = all_of c.pid.new.self in
    let d : AllTables = all_of c.word.new.self in
    let e : AllTables = all_of c.word-2.new.self in
    let f : AllTables = all_of c.word-3.new.self in
    let last : Keeps e f = c.word-3.ensures.extends in
    let two : Keeps d f = keeps_both d e f c.word-2.ensures.extends last in
    let three : Keeps b f = keeps_both b d f c.word.ensures.extends two in
    record {
      pid = later_pid b f three (view c.args.tracked.now.pid.now) c.in_ok-pid.pid c.in_ok-pid.ensures.pid;
      topic = later_word d f two (view c.args.tracked.now.topic.now) c.in_ok-topic.topic c.in_ok-topic.ensures.word;
      key = later_word e f last (view c.args.tracked.now.key.now) c.in_ok-key.key c.in_ok-key.ensures.word;
      metadata = c.in_ok-metadata.ensures.word;
    }

pub returns-clause-extends : goal.returns-clause-extends
returns-clause-extends g c =
    let a : AllTables = all_of c.args.tables.now in
    let b : AllTables = all_of c.pid.new.self in
    let d : AllTables = all_of c.word.new.self in
    let e : AllTables = all_of c.word-2.new.self in
    let f : AllTables = all_of c.word-3.new.self in
    keeps_both a d f (keeps_both a b d c.pid.ensures.extends c.word.ensures.extends) (keeps_both d e f c.word-2.ensures.extends c.word-3.ensures.extends)

pub returns-in_err-metadata-clause-extends : goal.returns-in_err-metadata-clause-extends
returns-in_err-metadata-clause-extends g c =
    let a : AllTables = all_of c.args.tables.now in
    let b : AllTables = all_of c.pid.new.self in
    let d : AllTables = all_of c.word.new.self in
    let e : AllTables = all_of c.word-2.new.self in
    let f : AllTables = all_of c.word-3.new.self in
    keeps_both a d f (keeps_both a b d c.pid.ensures.extends c.word.ensures.extends) (keeps_both d e f c.word-2.ensures.extends c.word-3.ensures.extends)

pub returns-clause-values : goal.returns-clause-values
returns-clause-values g c =
    let a : AllTables = all_of c.args.tables.now in
    let b : AllTables = all_of c.pid.new.self in
    let d : AllTables = all_of c.word.new.self in
    let e : AllTables = all_of c.word-2.new.self in
    let f : AllTables = all_of c.word-3.new.self in
    let pid = view c.args.tracked.now.pid.now in
    let topic = view c.args.tracked.now.topic.now in
    let key = view c.args.tracked.now.key.now in
    let meta = view c.args.tracked.now.meta.now in
    values_more a b f (pid ∷ []) [] [] (topic ∷ key ∷ meta ∷ []) c.in_ok-pid.ensures.values
    (values_more b d f [] (topic ∷ []) [] (key ∷ meta ∷ []) c.in_ok-topic.ensures.values
    (values_more d e f [] (key ∷ []) [] (meta ∷ []) c.in_ok-key.ensures.values c.in_ok-metadata.ensures.values))
