use Rattle.std.specs.Str.Iter.{split_ascii_whitespace_text}
use Rattle.spelling.proofs.Reading.{words_cut, words_none, reading_more, reading_stuck, reading_ends}
use Rattle.spelling.proofs.levels.levels.Goals as goal

pub loop-word-preserved : goal.loop-word-preserved
loop-word-preserved g c =
    reading_more g.L.Written.spells c.args.text.now _ _ c.in-Some.word.now _ (words_cut _ c.in-Some.word _ c.in-Some.ensures.steps) c.loop-word.invariant
    c.in-Some-read.level _ c.in_ok-push-in-Some-read.ensures.items c.in-Some-read.ensures

pub returns-in-None-read : goal.returns-in-None-read
returns-in-None-read g c =
    reading_stuck g.L.Written.spells c.args.text.now _ (split_ascii_whitespace_text c.next.new.self) c.in-Some.word.now _ (words_cut _ c.in-Some.word _ c.in-Some.ensures.steps) c.loop-word.invariant
    c.in-None-read.ensures

pub returns : goal.returns
returns g c =
    reading_ends g.L.Written.spells c.args.text.now _ _ (words_none (split_ascii_whitespace_text c.loop-word.word-iterator) c.in-None.ensures.steps.0) c.loop-word.invariant
