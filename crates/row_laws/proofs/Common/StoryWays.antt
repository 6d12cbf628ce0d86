-- How a row of a connection goes on with the story: a message of MESSAGE OUT or of MESSAGE IN is whole with it, another
-- byte crosses, or none does. A lemma on such rows goes by these ways (`story_way`), and not by the tests of
-- `story_in_connection` once more.
use Rattle.row_laws.proofs
use proofs.Names.{◌≡◌, Bool, true, false, Option, Some, None, refl, if◌then◌else◌, is_some, Row, MsgIn, MsgOut}
use proofs.Names.{ScenarioValue, RowReading, Link, Story, story_after_out, story_after_in, story_after_byte}
use proofs.Names.{story_after_fault, story_in_connection}

pub data StoryWay (s : ScenarioValue) (b : Story) (l : Link) (d : RowReading) (row : Row) : Story → Type 0 where
  says : (m : MsgOut) → d.crosses ≡ true → d.out ≡ Some m → StoryWay s b l d row (story_after_out b l (Some m))
  hears : (m : MsgIn) → d.crosses ≡ true → d.out ≡ None → d.into ≡ Some m
      → StoryWay s b l d row (story_after_in s b l (Some m))
  carries : d.crosses ≡ true → d.out ≡ None → d.into ≡ None → StoryWay s b l d row (story_after_byte b l d)
  stays : d.crosses ≡ false → StoryWay s b l d row (story_after_fault b l row.kind)

pub story_way : (s : ScenarioValue) (b : Story) (l : Link) (d : RowReading) (row : Row)
    → StoryWay s b l d row (story_in_connection s b (Some l) d row)
story_way s b l d row = go d.crosses refl d.out refl d.into refl
  where
    go : (q : Bool) → d.crosses ≡ q → (o : Option MsgOut) → d.out ≡ o → (t : Option MsgIn) → d.into ≡ t
        → StoryWay s b l d row
        (if q then (if is_some o then story_after_out b l o else if is_some t then story_after_in s b l t
        else story_after_byte b l d) else story_after_fault b l row.kind)
    go true e (Some m) f t g = says m e f
    go true e None f (Some m) g = hears m e f g
    go true e None f None g = carries e f g
    go false e o f t g = stays e
