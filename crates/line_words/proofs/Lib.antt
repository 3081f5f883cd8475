mod BytesRead
mod FewDigits
mod FirstWord
mod OneWordAtLeast
