-- Lemmas of the laws of logs.
mod Terms
mod SpeltTokens
mod CountedTokens
mod LaterNames
mod ReducedCats
mod FineItems
mod WrittenScraps
mod LeafScraps
mod MadeTexts
mod NamedTexts
mod RightTexts
mod JudgedLogs
mod AcceptedLogs
mod BookNames
mod InsideTexts
mod WrittenLogs
